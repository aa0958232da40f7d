use Rattle.std.proofs.Common.{ℕ, List, subst}
use Rattle.ds_check.specs.Verdicts.{IsVerdict}
use Rattle.ds_journal_text.specs.Texts.{IsJournalOf}
use Rattle.ds_rounds.specs.Rounds.{rounds_of_input}
use Rattle.ds_audit.specs.Audits.{IsNoJournal, names_asked}
use Rattle.ds_audit.proofs.AuditLaws.{given_back, same_then, same_unless, undecided_defs, undecided_journal}
use Rattle.ds_audit.proofs.WritingLaws.{unfaulted}
use Rattle.ds_audit.proofs.auditing.verdict_on.Goals as goal

pub returns-in-Err-clause-undecided : goal.returns-in-Err-clause-undecided
returns-in-Err-clause-undecided g c = λ words said.
    undecided_journal (g.F.Files.content c.args.files.now) (g.F.Files.faults c.args.files.now) (g.F.Files.faults c.load_texts.new.files)
    words (names_asked c.args.names.now) c.in_ok-texts.texts c.in-Err.status said c.in_ok-texts.ensures.loaded
    (subst (λ (bs : List ℕ). IsNoJournal bs c.in-Err.status) c.bytes.ensures c.in-Err.ensures.refused)

pub returns-in-Err-definitions-clause-undecided : goal.returns-in-Err-definitions-clause-undecided
returns-in-Err-definitions-clause-undecided g c = λ words said.
    let journal = c.in-Ok.journal in
    undecided_defs (g.F.Files.content c.args.files.now) (g.F.Files.content c.load_texts.new.files) c.load_texts.ensures.contents
    (g.F.Files.faults c.args.files.now) (g.F.Files.faults c.load_texts.new.files) (g.F.Files.faults c.definitions.new.files)
    c.load_texts.ensures.counted words (names_asked c.args.names.now) c.in_ok-texts.texts journal c.in-Err-definitions.status said
    c.in_ok-texts.ensures.loaded (subst (λ (bs : List ℕ). IsJournalOf bs journal) c.bytes.ensures c.in-Ok.ensures.read)
    c.in-Err-definitions.ensures.refused

pub returns-in-Ok-check-clause-decided : goal.returns-in-Ok-check-clause-decided
returns-in-Ok-check-clause-decided g c = λ words said.
    let content = g.F.Files.content c.args.files.now in
    let options = c.args.names.now.options in
    let journal = c.in-Ok.journal in
    let defs = c.in-Ok-definitions.defs in
    let texts = c.in_ok-texts.texts in
    let v = c.in-Ok-check.verdict in record {
      has = record { asked = names_asked c.args.names.now; said = said; texts = texts; loaded = c.in_ok-texts.ensures.loaded };
      journal = journal;
      journal_is = subst (λ (bs : List ℕ). IsJournalOf bs journal) c.bytes.ensures c.in-Ok.ensures.read;
      definitions = defs;
      given = given_back content (g.F.Files.content c.load_texts.new.files) c.load_texts.ensures.contents options.indexes defs
          c.in-Ok-definitions.ensures.given;
      verdict = subst (λ (bs : List ℕ). IsVerdict defs options.shards options.window (rounds_of_input bs) journal texts.replies v)
          c.bytes-2.ensures
          (subst (λ (bs : List ℕ). IsVerdict defs options.shards options.window (rounds_of_input c.bytes-2.result.now) journal bs v)
          c.bytes-3.ensures c.in-Ok-check.ensures.verdict);
    }

pub returns-in-Err-clause-unfaulted : goal.returns-in-Err-clause-unfaulted
returns-in-Err-clause-unfaulted g c = unfaulted c.in-Err.status _ c.in_ok-texts.ensures.unfaulted

pub returns-in-Err-definitions-clause-unfaulted : goal.returns-in-Err-definitions-clause-unfaulted
returns-in-Err-definitions-clause-unfaulted g c =
    same_unless c.in-Err-definitions.status (g.F.Files.faults c.args.files.now) (g.F.Files.faults c.load_texts.new.files)
    (g.F.Files.faults c.definitions.new.files) c.in_ok-texts.ensures.unfaulted c.in-Err-definitions.ensures.unfaulted

pub returns-in-Ok-check-clause-unfaulted : goal.returns-in-Ok-check-clause-unfaulted
returns-in-Ok-check-clause-unfaulted g c =
    same_then (g.F.Files.faults c.args.files.now) (g.F.Files.faults c.load_texts.new.files) (g.F.Files.faults c.definitions.new.files)
    c.in_ok-texts.ensures.unfaulted c.in-Ok-definitions.ensures.unfaulted
