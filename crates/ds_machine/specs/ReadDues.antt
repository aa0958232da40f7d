-- What the read of a group comes to at a step.
use Rattle.std.specs.Prelude.{◌≡◌, Option, None, Some, ⊤}
use Rattle.ds_base.specs.Keys.{KeyParts}
use Rattle.ds_model.specs.Sessions.{Session}
use Rattle.ds_machine.specs.declared.due_reads.ReadDue.{ReadDue}
use Rattle.ds_machine.specs.declared.due_reads.ReadDue.TheVariants as due
use Rattle.ds_effects.specs.declared.gathered.Step.{Step}
use Rattle.ds_effects.specs.Gathered.{GatheredParts}
use Rattle.ds_machine.specs.States.{StateParts}
use Rattle.ds_machine.specs.Told.{IsGroupRead}

-- the read of a group that may be read there
abbrev pub IsReadDue : StateParts → Session → GatheredParts → KeyParts → ReadDue → Type 0
IsReadDue st s g group (due.Read r) = IsGroupRead st s g group r
IsReadDue st s g group (due.Waits step) = ⊤

-- it waits for the missing step, and reads as soon as none is
abbrev pub IsNextRead : Option Step → ReadDue → Type 0
IsNextRead next (due.Read r) = next ≡ None
IsNextRead next (due.Waits step) = next ≡ Some step
