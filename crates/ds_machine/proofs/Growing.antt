-- Of a state nothing is lost where its store stays.
use Rattle.ds_machine.proofs.Words.{◌≡◌, [], arith, append-nil, StateParts, AreUpTo, Grows, shown}
use Rattle.ds_machine.proofs.Grown.{up_to-same}

pub grows_planned : (old mid : StateParts) → mid.store ≡ old.store → AreUpTo old.applied.counts mid.applied.counts → Grows old mid
grows_planned old mid same counts =
    rw same record { added = []; journal = rw append-nil; next = omega arith; counts = counts }

-- a state that looked further at its journal
pub looked-grows : (old new : StateParts) → new.store ≡ old.store → new.applied.counts ≡ old.applied.counts → Grows old new
looked-grows old new store counts = grows_planned old new store (rw counts (up_to-same old.applied.counts))

pub looked-shown : (old new : StateParts) → new.store ≡ old.store → new.applied.counts ≡ old.applied.counts → shown new ≡ shown old
looked-shown old new store counts = cc
