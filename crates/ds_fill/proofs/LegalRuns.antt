-- A run over a load that ended well, in the words of its replies.
use Rattle.std.proofs.Common.{◌≡◌, ℕ, false, true, List, [], ◌++◌, ap, sym, ◌∙◌, Option, Some, None, subst, append-nil, ◌⊎◌, inl}
use Rattle.std.proofs.Common.{inr, ◌+◌}
use Rattle.std.proofs.Common.{◌-◌}
use Rattle.std.specs.Prelude.{IfSome, IsSome, option_map}
use Rattle.ds_fill.specs.Filling.{AreReplies, server_words}
use Rattle.ds_load.specs.Input.{load_text}
use Rattle.ds_load.specs.Telling.{IsOfRuns, IsSummary}
use Rattle.ds_load.specs.declared.reading.Summary.{Summary}
use Rattle.ds_log.specs.declared.Commit.{Commit}
use Rattle.ds_model.specs.Legal.{Legal}
use Rattle.ds_rounds.specs.Rounds.{NumberedLine, rounds_of_input}
use Rattle.ds_serve.specs.Runs.{IsLegalRun}
use Rattle.ds_words.specs.Form.{options_of}
use Rattle.ds_words.specs.declared.options.Options.{Options}
use Rattle.ds_words.specs.declared.status.Status.{Status}
use Rattle.ds_words.specs.declared.status.Status.TheVariants as status

-- the server's words say that there are four shards
four_shards : (words : List (List ℕ)) (options : Options) → words ≡ server_words → options_of words ≡ Some options → options.shards ≡ 4
four_shards words options is said =
    let shards : option_map (λ (o : Options). o.shards) (options_of server_words) ≡ Some options.shards =
    ap (λ ws. option_map (λ (o : Options). o.shards) (options_of ws)) (sym is) ∙ ap (option_map (λ (o : Options). o.shards)) said in
    let four : Some 4 ≡ Some options.shards = shards in cc

legal_replies : (items : ℕ) (words : List (List ℕ)) (content : List ℕ → Option (List ℕ)) (rest : Option (List ℕ)) (journal : List Commit)
    (held unsent : List ℕ) → words ≡ server_words → unsent ≡ []
    → IsLegalRun words content status.Done (Some (load_text items)) rest journal (Some []) (Some held) unsent → AreReplies items held
legal_replies items words content rest journal held unsent is none run =
    let shards : run.setting.shards ≡ 4 = run.set_up.shards ∙ four_shards words run.set_up.options is run.set_up.said in
    let rounds : run.rounds ≡ rounds_of_input (load_text items) = run.run.2 ∙ ap rounds_of_input (sym (run.at_the_end run.run.0)) in
    record {
      definitions = run.setting.defs;
      window = Some run.setting.window;
      journal = journal;
      replies = run.replies;
      legal = subst (λ (rs : List (List NumberedLine)). Legal run.setting.defs 4 (Some run.setting.window) rs journal run.replies) rounds
          (subst (λ n. Legal run.setting.defs n (Some run.setting.window) run.rounds journal run.replies) shards run.legal);
      text_is = run.written.1 ∙ sym (run.written.2 ∙ ap (λ bs. run.written.0 ++ bs) none ∙ append-nil run.written.0);
    }

-- a run that gave a journal, of what it was given
pub replied : (items : ℕ) (words : List (List ℕ)) (content : List ℕ
    → Option (List ℕ)) (how : Status) (left : List ℕ) (rest : Option (List ℕ)) (journal : Option (List Commit))
    (before held unsent : List ℕ)
    → words ≡ server_words → how ≡ status.Done → left ≡ load_text items → before ≡ [] → IsSome journal → (how ≡ status.WriteFault)
    ⊎ (unsent ≡ [])
    → IfSome journal (λ j. IsLegalRun words content how (Some left) rest j (Some before) (Some held) unsent) → AreReplies items held
replied items words content how left rest None before held unsent is done load empty given none run =
    let never : false ≡ true = given in cc
replied items words content how left rest (Some journal) before held unsent is done load empty given (inl fault) run =
    let never : status.Done ≡ status.WriteFault = sym done ∙ fault in cc
replied items words content how left rest (Some journal) before held unsent is done load empty given (inr none) run =
    legal_replies items words content rest journal held unsent is none
    (subst (λ (b : List ℕ). IsLegalRun words content status.Done (Some (load_text items)) rest journal (Some b) (Some held) unsent) empty
    (subst (λ (l : List ℕ). IsLegalRun words content status.Done (Some l) rest journal (Some before) (Some held) unsent) load
    (subst (λ (s : Status). IsLegalRun words content s (Some left) rest journal (Some before) (Some held) unsent) done run)))

-- what is told of runs is told of this one
pub told : (items : ℕ) (text : List ℕ) (s : Summary) → AreReplies items text → IsOfRuns items text s → IsSummary items s
told items text s run of_runs = of_runs run.definitions run.window run.journal run.replies run.legal run.text_is
