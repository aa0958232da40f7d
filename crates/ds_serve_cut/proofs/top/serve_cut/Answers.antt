use Rattle.std.proofs.Common.{◌≡◌, ◌⊎◌, ◌∙◌, ℕ, map, subst, sym, ap}
use Rattle.std.specs.Prelude.{IfSome}
use Rattle.std.specs.String.{string_bytes}
use Rattle.ds_serving.specs.Settings.{IsToldWrong}
use Rattle.ds_cutting.specs.CutRuns.{IsFinished, IsLegalCutRun, IsUntouchedCut}
use Rattle.ds_serve_cut.specs.CutSettings.{AreFileFaults, EndsBeforeNext, IsToldWrongNext, IsUnsetCut}
use Rattle.ds_cutting.specs.CutSteps.{cut_read_faults, cut_write_faults}
use Rattle.ds_serve_cut.specs.CutWords.{cut_form}
use Rattle.ds_cutting.specs.declared.outcome.CutStatus.{CutStatus}
use Rattle.ds_cutting.specs.declared.outcome.CutStatus.TheVariants as cut
use Rattle.ds_words.specs.declared.status.Status.TheVariants as status
use Rattle.ds_serve_cut.proofs.Finished.{finished, limit_cut, unset_finished}
use Rattle.ds_serve_cut.proofs.NoneRun.{unset_all}
use Rattle.ds_serve_cut.proofs.SettingLaws.{begun_touched, faults_begun, next_fits, said_and, said_so}
use Rattle.ds_serve_cut.proofs.SettingLaws.{set_fits, set_said, unset_calm, unset_usage}
use Rattle.ds_serve_cut.proofs.SettingLaws.{unset_wrong_first, unset_wrong_second, usage_unset}
use Rattle.ds_serve_cut.proofs.top.serve_cut.Goals as goal

pub returns-in-Ok-clause-legal : goal.returns-in-Ok-clause-legal
returns-in-Ok-clause-legal g c =
    let words = map string_bytes c.args.words.now in
    let content = g.F.Files.content c.args.files.now in
    let set = c.in-Ok.ensures.ok in
    let run = c.serve_input.result in
    let left = g.I.Source.left c.args.input.now in
    let rest = g.I.Source.left c.serve_input.new.input in
    let old = g.O.Sink.held c.args.output.now in
    let new = g.O.Sink.held c.serve_input.new.output in
    said_so words set.parts (λ w. IfSome run.journal (λ journal.
    IsLegalCutRun w.words w.file w.after content run.status run.cut left rest journal old new run.unsent)) set.said
    (subst (λ (n : ℕ). IfSome run.journal (λ journal.
    IsLegalCutRun set.parts.words set.parts.file n content run.status run.cut left rest journal old new run.unsent)) set.after_is
    (c.serve_input.ensures.legal set.parts.words set.parts.file content
    (record { setting = set.setting; second_read = set.second_read })))

pub returns-in-Ok-clause-journal : goal.returns-in-Ok-clause-journal
returns-in-Ok-clause-journal g c = c.serve_input.ensures.ends.journal

pub returns-in-Ok-clause-unsent : goal.returns-in-Ok-clause-unsent
returns-in-Ok-clause-unsent g c = c.serve_input.ensures.ends.unsent

pub returns-in-Ok-clause-usage : goal.returns-in-Ok-clause-usage
returns-in-Ok-clause-usage g c = λ is.
    begun_touched c.serve_input.result.status c.serve_input.ensures.ends.began (subst IsUntouchedCut (sym is) tt)

pub returns-in-Ok-clause-form : goal.returns-in-Ok-clause-form
returns-in-Ok-clause-form g c = λ none.
    let set = c.in-Ok.ensures.ok in
    set_said (map string_bytes c.args.words.now) (g.F.Files.content c.args.files.now) set.parts c.in-Ok.start.start.setting set.said
    set.setting
    none

pub returns-in-Ok-clause-unset : goal.returns-in-Ok-clause-unset
returns-in-Ok-clause-unset g c = λ untouched. begun_touched c.serve_input.result.status c.serve_input.ensures.ends.began untouched

pub returns-in-Ok-clause-file_faults : goal.returns-in-Ok-clause-file_faults
returns-in-Ok-clause-file_faults g c =
    let before = g.F.Files.faults c.args.files.now in
    let after = g.F.Files.faults c.set_up_cut.new.files in
    let set = c.in-Ok.ensures.ok in
    said_so (map string_bytes c.args.words.now) set.parts (λ w. AreFileFaults w before after c.serve_input.result.status) set.said
    (faults_begun set.parts before after c.serve_input.result.status c.serve_input.ensures.ends.began c.in-Ok.ensures.faults)

pub returns-in-Ok-clause-no_file : goal.returns-in-Ok-clause-no_file
returns-in-Ok-clause-no_file g c = λ none.
    let set = c.in-Ok.ensures.ok in
    set_said (map string_bytes c.args.words.now) (g.F.Files.content c.args.files.now) set.parts c.in-Ok.start.start.setting set.said
    set.setting
    none

pub returns-in-Ok-clause-wrong_file : goal.returns-in-Ok-clause-wrong_file
returns-in-Ok-clause-wrong_file g c = λ line wrong.
    let content = g.F.Files.content c.args.files.now in
    let set = c.in-Ok.ensures.ok in
    set_fits set.parts content line c.in-Ok.start.start.setting set.setting
    (said_and (map string_bytes c.args.words.now) set.parts (λ w. IsToldWrong w.words content line) set.said wrong)

pub returns-in-Ok-clause-wrong_next : goal.returns-in-Ok-clause-wrong_next
returns-in-Ok-clause-wrong_next g c = λ line wrong.
    let content = g.F.Files.content c.args.files.now in
    let set = c.in-Ok.ensures.ok in
    next_fits set.parts content line c.in-Ok.start.second set.second_read
    (said_and (map string_bytes c.args.words.now) set.parts (λ w. IsToldWrongNext w content line) set.said wrong)

pub returns-in-Ok-clause-untouched_input : goal.returns-in-Ok-clause-untouched_input
returns-in-Ok-clause-untouched_input g c = λ untouched.
    begun_touched c.serve_input.result.status c.serve_input.ensures.ends.began untouched

pub returns-in-Ok-clause-untouched_output : goal.returns-in-Ok-clause-untouched_output
returns-in-Ok-clause-untouched_output g c = λ untouched.
    begun_touched c.serve_input.result.status c.serve_input.ensures.ends.began untouched

pub returns-in-Ok-clause-untouched_journal : goal.returns-in-Ok-clause-untouched_journal
returns-in-Ok-clause-untouched_journal g c = λ untouched.
    begun_touched c.serve_input.result.status c.serve_input.ensures.ends.began untouched

pub returns-in-Ok-clause-read_fault : goal.returns-in-Ok-clause-read_fault
returns-in-Ok-clause-read_fault g c = c.serve_input.ensures.ends.read_fault

pub returns-in-Ok-clause-write_fault : goal.returns-in-Ok-clause-write_fault
returns-in-Ok-clause-write_fault g c = c.serve_input.ensures.ends.write_fault

pub returns-in-Ok-clause-input_limit : goal.returns-in-Ok-clause-input_limit
returns-in-Ok-clause-input_limit g c = λ is.
    let content = g.F.Files.content c.args.files.now in
    let set = c.in-Ok.ensures.ok in
    limit_cut set.parts.words set.parts.file c.in-Ok.start.after content (g.I.Source.left c.args.input.now)
    (g.I.Source.left c.serve_input.new.input) (g.O.Sink.held c.args.output.now) (g.O.Sink.held c.serve_input.new.output)
    c.serve_input.result
    c.serve_input.ensures.ends.journal
    (c.serve_input.ensures.legal set.parts.words set.parts.file content
    (record { setting = set.setting; second_read = set.second_read })) is

pub returns-in-Ok-clause-complete : goal.returns-in-Ok-clause-complete
returns-in-Ok-clause-complete g c = λ said fine below in_steady out_steady.
    let content = g.F.Files.content c.args.files.now in
    let set = c.in-Ok.ensures.ok in
    let ends = c.serve_input.ensures.ends in
    let left = g.I.Source.left c.args.input.now in
    let rest = g.I.Source.left c.serve_input.new.input in
    finished c.serve_input.result.status left rest (g.I.Source.faults c.args.input.now) (g.I.Source.faults c.serve_input.new.input)
    (g.O.Sink.faults c.args.output.now) (g.O.Sink.faults c.serve_input.new.output) ends.began
    (limit_cut set.parts.words set.parts.file c.in-Ok.start.after content left rest (g.O.Sink.held c.args.output.now)
    (g.O.Sink.held c.serve_input.new.output) c.serve_input.result ends.journal
    (c.serve_input.ensures.legal set.parts.words set.parts.file content
    (record { setting = set.setting; second_read = set.second_read }))) ends.read_fault ends.write_fault below in_steady out_steady

pub returns-in-Err-clause-legal : goal.returns-in-Err-clause-legal
returns-in-Err-clause-legal g c =
    unset_all (map string_bytes c.args.words.now) (g.F.Files.content c.args.files.now) (g.F.Files.faults c.args.files.now)
    (g.F.Files.faults c.set_up_cut.new.files) c.in-Err.status (g.I.Source.left c.args.input.now) (g.O.Sink.held c.args.output.now)
    c.nothing_run.result c.in-Err.ensures.refused c.nothing_run.ensures.status c.nothing_run.ensures.cut c.nothing_run.ensures.journal
    c.nothing_run.ensures.unsent

pub returns-in-Err-clause-usage : goal.returns-in-Err-clause-usage
returns-in-Err-clause-usage g c = λ is.
    usage_unset (map string_bytes c.args.words.now) (g.F.Files.content c.args.files.now) (g.F.Files.faults c.args.files.now)
    (g.F.Files.faults c.set_up_cut.new.files) c.in-Err.status c.in-Err.ensures.refused (sym c.nothing_run.ensures.status ∙ is)

pub returns-in-Err-clause-form : goal.returns-in-Err-clause-form
returns-in-Err-clause-form g c = λ none.
    c.nothing_run.ensures.status
    ∙ unset_usage (map string_bytes c.args.words.now) (g.F.Files.content c.args.files.now) (g.F.Files.faults c.args.files.now)
    (g.F.Files.faults c.set_up_cut.new.files) c.in-Err.status c.in-Err.ensures.refused none

pub returns-in-Err-clause-unset : goal.returns-in-Err-clause-unset
returns-in-Err-clause-unset g c = λ untouched.
    subst (λ (s : CutStatus). IsUnsetCut (cut_form (map string_bytes c.args.words.now)) (g.F.Files.content c.args.files.now)
    (g.F.Files.faults c.args.files.now) (g.F.Files.faults c.set_up_cut.new.files) s) (sym c.nothing_run.ensures.status)
    c.in-Err.ensures.refused

pub returns-in-Err-clause-file_faults : goal.returns-in-Err-clause-file_faults
returns-in-Err-clause-file_faults g c =
    subst (λ (s : CutStatus). IfSome (cut_form (map string_bytes c.args.words.now)) (λ w.
    AreFileFaults w (g.F.Files.faults c.args.files.now) (g.F.Files.faults c.set_up_cut.new.files) s)) (sym c.nothing_run.ensures.status)
    c.in-Err.ensures.faults

pub returns-in-Err-clause-no_file : goal.returns-in-Err-clause-no_file
returns-in-Err-clause-no_file g c = c.set_up_cut.ensures.unnamed

pub returns-in-Err-clause-wrong_file : goal.returns-in-Err-clause-wrong_file
returns-in-Err-clause-wrong_file g c = λ line wrong.
    subst (λ (s : CutStatus). (s ≡ cut.Served (status.IndexFile line))
    ⊎ ((s ≡ cut.Served status.FileFault) ⊎ (s ≡ cut.Served status.NoMemory))) (sym c.nothing_run.ensures.status)
    (unset_wrong_first (g.F.Files.content c.args.files.now) (g.F.Files.faults c.args.files.now) (g.F.Files.faults c.set_up_cut.new.files)
    c.in-Err.status (map string_bytes c.args.words.now) line c.in-Err.ensures.refused wrong)

pub returns-in-Err-clause-wrong_next : goal.returns-in-Err-clause-wrong_next
returns-in-Err-clause-wrong_next g c = λ line wrong.
    subst (λ (s : CutStatus). (s ≡ cut.NextFile line) ⊎ EndsBeforeNext s) (sym c.nothing_run.ensures.status)
    (unset_wrong_second (g.F.Files.content c.args.files.now) (g.F.Files.faults c.args.files.now) (g.F.Files.faults c.set_up_cut.new.files)
    c.in-Err.status (map string_bytes c.args.words.now) line c.in-Err.ensures.refused wrong)

pub returns-in-Err-clause-read_fault : goal.returns-in-Err-clause-read_fault
returns-in-Err-clause-read_fault g c =
    let faults = g.I.Source.faults c.args.input.now in
    sym (ap (λ (s : CutStatus). cut_read_faults s faults) c.nothing_run.ensures.status
    ∙ (unset_calm (map string_bytes c.args.words.now) (g.F.Files.content c.args.files.now) (g.F.Files.faults c.args.files.now)
    (g.F.Files.faults c.set_up_cut.new.files) c.in-Err.status faults c.in-Err.ensures.refused).0)

pub returns-in-Err-clause-write_fault : goal.returns-in-Err-clause-write_fault
returns-in-Err-clause-write_fault g c =
    let faults = g.O.Sink.faults c.args.output.now in
    sym (ap (λ (s : CutStatus). cut_write_faults s faults) c.nothing_run.ensures.status
    ∙ (unset_calm (map string_bytes c.args.words.now) (g.F.Files.content c.args.files.now) (g.F.Files.faults c.args.files.now)
    (g.F.Files.faults c.set_up_cut.new.files) c.in-Err.status faults c.in-Err.ensures.refused).1)

pub returns-in-Err-clause-input_limit : goal.returns-in-Err-clause-input_limit
returns-in-Err-clause-input_limit g c = λ is.
    absurd ((unset_calm (map string_bytes c.args.words.now) (g.F.Files.content c.args.files.now) (g.F.Files.faults c.args.files.now)
    (g.F.Files.faults c.set_up_cut.new.files) c.in-Err.status 0 c.in-Err.ensures.refused).2 (sym c.nothing_run.ensures.status ∙ is))

pub returns-in-Err-clause-complete : goal.returns-in-Err-clause-complete
returns-in-Err-clause-complete g c = λ said fine below in_steady out_steady.
    subst IsFinished (sym c.nothing_run.ensures.status)
    (unset_finished (g.F.Files.content c.args.files.now) (g.F.Files.faults c.args.files.now) (g.F.Files.faults c.set_up_cut.new.files)
    (map string_bytes c.args.words.now) c.in-Err.status c.in-Err.ensures.refused said fine)
