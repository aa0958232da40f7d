-- What else a run tells of its end.
use Rattle.std.proofs.Common.{◌≡◌, ◌⊎◌, inl, inr, ℕ, List, length, refl, ap, subst, sym, arith, Option, Some, None, length-append}
use Rattle.std.specs.Io.KnownBytes.{Consumes}
use Rattle.ds_base.specs.Limits.{most_input_bytes}
use Rattle.ds_io.specs.FaultLaws.{Rose-next_count}
use Rattle.ds_io.specs.Faults.{Rose, next_count}
use Rattle.ds_words.specs.declared.status.Status.{Status}
use Rattle.ds_words.specs.declared.status.Status.TheVariants as status
use Rattle.ds_serving.specs.Rounds.{IsEnd}
use Rattle.ds_serving.specs.Runs.{HasBegun, HasTaken, IsBelow, IsSteady, read_faults, write_faults}

-- a run that ended where no further round is run had begun to read
pub begun_end : (how : Status) → IsEnd how → HasBegun how
begun_end status.Done end = tt
begun_end status.Usage end = absurd end
begun_end (status.IndexFile line) end = absurd end
begun_end status.FileFault end = absurd end
begun_end status.ReadFault end = tt
begun_end status.WriteFault end = absurd end
begun_end status.NoMemory end = tt
begun_end status.InputLimit end = tt

-- at the limit just so many bytes were taken
pub taken : (read : List ℕ) (left rest : Option (List ℕ)) → length read ≡ most_input_bytes → Consumes left rest read
    → HasTaken most_input_bytes left rest
taken read None rest whole told = tt
taken read (Some l) None whole told = absurd told
taken read (Some l) (Some r) whole told = omega (arith, ap (λ (bs : List ℕ). length bs) told, length-append read r, whole)

-- a count that is the next one rose
rose : (old new : ℕ) → new ≡ next_count old → Rose old new
rose old new is = subst (Rose old) (sym is) (Rose-next_count old)

-- with no fault and below the limit a run that began ends well or when out of memory
pub complete : (how : Status) (left rest : Option (List ℕ)) (in_old in_new out_old out_new : ℕ) → HasBegun how
    → (how ≡ status.InputLimit → HasTaken most_input_bytes left rest) → in_new ≡ read_faults how in_old
    → out_new ≡ write_faults how out_old → IsBelow most_input_bytes left → IsSteady in_old in_new → IsSteady out_old out_new
    → (how ≡ status.Done) ⊎ (how ≡ status.NoMemory)
complete status.Done left rest in_old in_new out_old out_new begun limit reads writes below in_steady out_steady = inl refl
complete status.Usage left rest in_old in_new out_old out_new begun limit reads writes below in_steady out_steady = absurd begun
complete (status.IndexFile line) left rest in_old in_new out_old out_new begun limit reads writes below in_steady out_steady = absurd begun
complete status.ReadFault left rest in_old in_new out_old out_new begun limit reads writes below in_steady out_steady =
    absurd (in_steady (rose in_old in_new reads))
complete status.WriteFault left rest in_old in_new out_old out_new begun limit reads writes below in_steady out_steady =
    absurd (out_steady (rose out_old out_new writes))
complete status.FileFault left rest in_old in_new out_old out_new begun limit reads writes below in_steady out_steady = absurd begun
complete status.NoMemory left rest in_old in_new out_old out_new begun limit reads writes below in_steady out_steady = inr refl
complete status.InputLimit left rest in_old in_new out_old out_new begun limit reads writes below in_steady out_steady =
    absurd (too_many left rest (limit refl) below) where
      too_many : (old new : Option (List ℕ)) → HasTaken most_input_bytes old new → IsBelow most_input_bytes old → ⊥
      too_many None new reached below = below
      too_many (Some before) None reached below = reached
      too_many (Some before) (Some after) reached below = omega (arith, reached, below)
