-- From what is kept of the replies that were not held back to what the images hold of those whose bytes were taken.
use Rattle.std.proofs.Common.{◌≡◌, ◌⊎◌, inl, inr, ℕ, zero, suc, ◌<◌, ◌≤◌, List, [], ◌∷◌, ◌++◌, length, take, refl}
use Rattle.std.proofs.Common.{ap, sym, ◌∙◌, subst, arith, length-append}
use Rattle.std.specs.Prelude.{All, flat_map}
use Rattle.std.proofs.lemmas.Grind.{flat_map-append}
use Rattle.std.proofs.lemmas.List.Elements.{All-nil, All-cons, All-append, All-head, All-tail, All-weaker}
use Rattle.serde_json.specs.Written.{compact_text}
use Rattle.ds_model.specs.Asked.{Reading}
use Rattle.ds_model.specs.Legal.{acknowledged, answered_lines, drawn_by, drawn_in}
use Rattle.ds_reply.specs.declared.reply.Reply.{Reply}
use Rattle.ds_reply.specs.Replies.{replies_text, reply_data, reply_text}
use Rattle.ds_rounds.specs.Rounds.{NumberedLine}
use Rattle.ds_keeping.specs.Holding.{HoldsUpTo}
use Rattle.ds_durable.specs.KeptReplies.{AllAreKept}
use Rattle.ds_kept_rounds.proofs.Replies.{replies_append}

all_front : {X : Type 0} (P : X → Type 0) (xs ys : List X) → All P (xs ++ ys) → All P xs
all_front P [] ys all = All-nil P
all_front P (x ∷ xs) ys all = All-cons P x xs (All-head P x (xs ++ ys) all) (all_front P xs ys (All-tail P x (xs ++ ys) all))

-- a reply has a byte at least
some-text : (r : Reply) → 1 ≤ length (reply_text r)
some-text r = let end : List ℕ = 10 ∷ [] in let long = length-append (compact_text (reply_data r)) end in omega (arith, long)

one-more : (r : Reply) (sent front : List Reply) → (more : List Reply) × (sent ≡ front ++ more)
    → (more : List Reply) × (r ∷ sent ≡ r ∷ front ++ more)
one-more r sent front found = (found.0, ap (λ rs. r ∷ rs) found.1)

-- replies whose text is no longer than that of the first ones are among these
among : (n : ℕ) (sent held_back : List Reply) → length (replies_text (take n (sent ++ held_back))) ≤ length (replies_text sent)
    → (more : List Reply) × (sent ≡ take n (sent ++ held_back) ++ more)
among zero sent held_back short = (sent, refl)
among (suc n) [] [] short = ([], refl)
among (suc n) [] (r ∷ held_back) short =
    absurd (omega (arith, short, some-text r, length-append (reply_text r) (replies_text (take n held_back))))
among (suc n) (r ∷ sent) held_back short =
    one-more r sent (take n (sent ++ held_back))
    (among n sent held_back
    (omega (
      arith,
      short,
      length-append (reply_text r) (replies_text (take n (sent ++ held_back))),
      length-append (reply_text r) (replies_text sent),
    )))

-- what fewer replies tell as drawn is the first of what more do
pub drawn_first : (P : ℕ → Type 0) (reading : Reading) (lines : List NumberedLine) (front more : List Reply)
    → All P (drawn_in reading lines (front ++ more)) → All P (drawn_in reading lines front)
drawn_first P reading [] front more all = All-nil P
drawn_first P reading (line ∷ lines) [] more all = All-nil P
drawn_first P reading (line ∷ lines) (r ∷ front) more all =
    All-append P (drawn_by (reading line.content) r.body) (drawn_in reading lines front)
    (all_front P (drawn_by (reading line.content) r.body) (drawn_in reading lines (front ++ more)) all)
    (drawn_first P reading lines front more
    (back (drawn_by (reading line.content) r.body) (drawn_in reading lines (front ++ more)) all)) where
      back : (xs ys : List ℕ) → All P (xs ++ ys) → All P ys
      back [] ys all = all
      back (x ∷ xs) ys all = back xs ys (All-tail P x (xs ++ ys) all)

-- no more was taken than the replies that were sent
short : (taken unsent sent held : List ℕ) → taken ++ unsent ≡ sent ++ held → (held ≡ []) ⊎ (held ≡ unsent) → length taken ≤ length sent
short taken unsent sent held same (inl none) =
    let long = sym (length-append taken unsent) ∙ ap (λ (bs : List ℕ). length bs) same ∙ length-append sent held in
    omega (arith, long, ap (λ (bs : List ℕ). length bs) none)
short taken unsent sent held same (inr is) =
    let long = sym (length-append taken unsent) ∙ ap (λ (bs : List ℕ). length bs) same ∙ length-append sent held in
    omega (arith, long, ap (λ (bs : List ℕ). length bs) is)

-- The replies whose bytes were taken are on the disk: what those tell that were not held back is kept.
pub are_kept : (reading : Reading) (rounds : List (List NumberedLine)) (replies sent held_back : List Reply)
    (taken unsent held : List ℕ) (commits next : ℕ) (images : List ℕ → Type 0) → replies ≡ sent ++ held_back
    → replies_text held_back ≡ held → replies_text replies ≡ taken ++ unsent → (held ≡ []) ⊎ (held ≡ unsent)
    → All (λ n. n ≤ commits) (flat_map acknowledged sent)
    → All (λ id. id < next) (drawn_in reading (answered_lines reading rounds) sent)
    → ((image : List ℕ) → images image → HoldsUpTo commits next image) → AllAreKept reading rounds replies taken images
are_kept reading rounds replies sent held_back taken unsent held commits next images split held_is whole either committed drawn on_disk =
    λ n first image here.
    let holds = on_disk image here in
    let front : List Reply = take n replies in
    let within : length (replies_text front) ≤ length (replies_text sent) =
    omega (
      arith,
      short taken unsent (replies_text sent) held texts either,
      ap (λ (bs : List ℕ). length bs) first.1,
      length-append (replies_text front) first.0,
    ) in
    let found = among n sent held_back
    (subst (λ (rs : List Reply). length (replies_text (take n rs)) ≤ length (replies_text sent)) split within) in
    let is : sent ≡ front ++ found.0 = found.1 ∙ ap (λ (rs : List Reply). take n rs ++ found.0) (sym split) in
    record {
      found = holds.found;
      stands = holds.stands;
      commits = All-weaker (λ c. c ≤ commits) (λ c. c ≤ length holds.found.journal) (λ c le. omega (arith, le, holds.many))
          (flat_map acknowledged front)
          (all_front (λ c. c ≤ commits) (flat_map acknowledged front) (flat_map acknowledged found.0)
          (subst (All (λ c. c ≤ commits)) (ap (flat_map acknowledged) is ∙ flat_map-append acknowledged front found.0) committed));
      ids = All-weaker (λ id. id < next) (λ id. id < holds.found.next) (λ id lt. omega (arith, lt, holds.counter))
          (drawn_in reading (answered_lines reading rounds) front)
          (drawn_first (λ id. id < next) reading (answered_lines reading rounds) front found.0
          (subst (λ (rs : List Reply). All (λ id. id < next) (drawn_in reading (answered_lines reading rounds) rs)) is drawn));
    } where
      texts : taken ++ unsent ≡ replies_text sent ++ held
      texts = sym whole ∙ ap replies_text split ∙ replies_append sent held_back ∙ ap (λ bs. replies_text sent ++ bs) held_is
