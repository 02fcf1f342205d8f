use Rattle.std.proofs.Common.{◌≤◌, ◌∙◌, ap, ℕ, subst, sym, arith, Err}
use Rattle.qs_top.specs.Inner.Giving.{IsNoScript}
use Rattle.qs_top.proofs.Others.{others_these, others_same}
use Rattle.qs_top.proofs.NodesLawful.{none_lawful}
use Rattle.qs_top.proofs.NodesThese.{none_by_rounds, none_coherent, none_leave, none_roomy, these_by_rounds, these_coherent, these_damaged, these_empty, these_fault, these_built, these_lawful, these_leave, these_ran, these_read, these_roomy, these_script, these_silent, these_written}
use Rattle.qs_top.proofs.TextLemmas.{text_fits, text_sits_once}
use Rattle.qs_top.proofs.running.run_script.Goals as goal

few_enough : (n : ℕ) → n ≤ 8 → n ≤ 16
few_enough n few = omega (arith, few)

pub returns-in-Err-clause-lawful : goal.returns-in-Err-clause-lawful
returns-in-Err-clause-lawful g c = none_lawful g.D.Disk.told g.D.Disk.state c.args.nodes c.ended.result.journal c.args.disks.now.items c.args.disks.now.items c.ended.ensures.nothing.entries

pub returns-clause-lawful : goal.returns-clause-lawful
returns-clause-lawful g c = these_lawful g.D.Disk.told g.D.Disk.state g.D.Disk.fault_count g.D.Disk.byte_count c.args.seed c.args.nodes c.in-Ok.script c.args.shown g.K.Sink.faults g.K.Sink.given c.args.sink.now c.give.new.sink c.run_over_nodes-made.result c.give.result c.args.disks.now.items c.run_over_nodes-made.new.disks.items c.run_over_nodes-made.ensures.over c.give.ensures

pub returns-clause-disk_fault : goal.returns-clause-disk_fault
returns-clause-disk_fault g c = λ node is. these_fault g.D.Disk.told g.D.Disk.state g.D.Disk.fault_count g.D.Disk.byte_count c.args.seed c.args.nodes c.in-Ok.script c.args.shown g.K.Sink.faults g.K.Sink.given c.args.sink.now c.give.new.sink c.run_over_nodes-made.result c.give.result c.args.disks.now.items c.run_over_nodes-made.new.disks.items c.run_over_nodes-made.ensures.over c.give.ensures node is

pub returns-clause-damaged : goal.returns-clause-damaged
returns-clause-damaged g c = λ node at is. these_damaged g.D.Disk.told g.D.Disk.state g.D.Disk.fault_count g.D.Disk.byte_count c.args.seed c.args.nodes c.in-Ok.script c.args.shown g.K.Sink.faults g.K.Sink.given c.args.sink.now c.give.new.sink c.run_over_nodes-made.result c.give.result c.args.disks.now.items c.run_over_nodes-made.new.disks.items c.run_over_nodes-made.ensures.over c.give.ensures node at is

pub returns-clause-script : goal.returns-clause-script
returns-clause-script g c = λ line fault is. absurd (these_script g.D.Disk.told g.D.Disk.state g.D.Disk.fault_count g.D.Disk.byte_count c.args.seed c.args.nodes c.in-Ok.script c.args.shown g.K.Sink.faults g.K.Sink.given c.args.sink.now c.give.new.sink c.run_over_nodes-made.result c.give.result c.args.disks.now.items c.run_over_nodes-made.new.disks.items c.run_over_nodes-made.ensures.over c.give.ensures line fault is)

pub returns-clause-empty : goal.returns-clause-empty
returns-clause-empty g c = these_empty g.D.Disk.told g.D.Disk.state g.D.Disk.fault_count g.D.Disk.byte_count c.args.seed c.args.nodes c.in-Ok.script c.args.shown g.K.Sink.faults g.K.Sink.given c.args.sink.now c.give.new.sink c.run_over_nodes-made.result c.give.result c.args.disks.now.items c.run_over_nodes-made.new.disks.items c.run_over_nodes-made.ensures.over c.give.ensures

pub returns-in-Err-clause-left : goal.returns-in-Err-clause-left
returns-in-Err-clause-left g c = none_leave g.D.Disk.told g.D.Disk.state c.args.nodes c.ended.result.status c.args.disks.now.items
    (subst IsNoScript (sym c.ended.ensures.status) c.in-Err.ensures.none) c.requires.few c.requires.disks

pub returns-clause-left : goal.returns-clause-left
returns-clause-left g c = these_leave g.D.Disk.told g.D.Disk.state g.D.Disk.fault_count g.D.Disk.byte_count c.args.seed c.args.nodes c.in-Ok.script c.args.shown g.K.Sink.faults g.K.Sink.given c.args.sink.now c.give.new.sink c.run_over_nodes-made.result c.give.result c.args.disks.now.items c.run_over_nodes-made.new.disks.items c.run_over_nodes-made.ensures.over c.give.ensures

pub returns-in-Err-clause-others : goal.returns-in-Err-clause-others
returns-in-Err-clause-others g c = others_same c.args.nodes c.args.disks.now.items

pub returns-clause-others : goal.returns-clause-others
returns-clause-others g c = others_these c.args.nodes _ c.args.disks.now.items c.run_over_nodes-made.new.disks.items c.run_over_nodes-made.ensures.over

pub returns-in-Err-clause-script : goal.returns-in-Err-clause-script
returns-in-Err-clause-script g c = λ line fault is. c.in-Err.ensures.fault line fault (ap Err (sym c.ended.ensures.status ∙ is))

pub returns-clause-ran : goal.returns-clause-ran
returns-clause-ran g c = λ is. these_ran g.D.Disk.told g.D.Disk.state g.D.Disk.fault_count g.D.Disk.byte_count c.args.seed c.args.nodes c.in-Ok.script c.args.shown g.K.Sink.faults g.K.Sink.given c.args.sink.now c.give.new.sink c.run_over_nodes-made.result c.give.result c.args.disks.now.items c.run_over_nodes-made.new.disks.items c.run_over_nodes-made.ensures.over c.give.ensures is

pub returns-clause-read_fault : goal.returns-clause-read_fault
returns-clause-read_fault g c = λ is. absurd (these_read g.D.Disk.told g.D.Disk.state g.D.Disk.fault_count g.D.Disk.byte_count c.args.seed c.args.nodes c.in-Ok.script c.args.shown g.K.Sink.faults g.K.Sink.given c.args.sink.now c.give.new.sink c.run_over_nodes-made.result c.give.result c.args.disks.now.items c.run_over_nodes-made.new.disks.items c.run_over_nodes-made.ensures.over c.give.ensures is)

pub returns-clause-write_fault : goal.returns-clause-write_fault
returns-clause-write_fault g c = λ is. these_written g.D.Disk.told g.D.Disk.state g.D.Disk.fault_count g.D.Disk.byte_count c.args.seed c.args.nodes c.in-Ok.script c.args.shown g.K.Sink.faults g.K.Sink.given c.args.sink.now c.give.new.sink c.run_over_nodes-made.result c.give.result c.args.disks.now.items c.run_over_nodes-made.new.disks.items c.run_over_nodes-made.ensures.over c.give.ensures is

pub returns-clause-silent : goal.returns-clause-silent
returns-clause-silent g c = these_silent g.D.Disk.told g.D.Disk.state g.D.Disk.fault_count g.D.Disk.byte_count c.args.seed c.args.nodes c.in-Ok.script c.args.shown g.K.Sink.faults g.K.Sink.given c.args.sink.now c.give.new.sink c.run_over_nodes-made.result c.give.result c.args.disks.now.items c.run_over_nodes-made.new.disks.items c.run_over_nodes-made.ensures.over c.give.ensures

pub returns-clause-built : goal.returns-clause-built
returns-clause-built g c = these_built g.D.Disk.told g.D.Disk.state g.D.Disk.fault_count g.D.Disk.byte_count c.args.seed c.args.nodes c.in-Ok.script c.args.shown g.K.Sink.faults g.K.Sink.given c.args.sink.now c.give.new.sink c.run_over_nodes-made.result c.give.result c.args.disks.now.items c.run_over_nodes-made.new.disks.items c.run_over_nodes-made.ensures.over c.give.ensures

pub returns-in-Err-clause-by_rounds : goal.returns-in-Err-clause-by_rounds
returns-in-Err-clause-by_rounds g c = none_by_rounds g.D.Disk.told g.D.Disk.state g.D.Disk.fault_count g.D.Disk.byte_count c.args.seed c.args.nodes c.args.shown (g.S.Source.left c.args.source.now) (g.S.Source.left c.script_for.new.source) (g.K.Sink.given c.args.sink.now) (g.K.Sink.given c.args.sink.now) c.ended.result c.args.disks.now.items
    (subst IsNoScript (sym c.ended.ensures.status) c.in-Err.ensures.none) c.requires.few c.requires.disks

pub returns-clause-by_rounds : goal.returns-clause-by_rounds
returns-clause-by_rounds g c = these_by_rounds g.D.Disk.told g.D.Disk.state g.D.Disk.fault_count g.D.Disk.byte_count c.args.seed c.args.nodes c.in-Ok.script c.args.shown g.K.Sink.faults g.K.Sink.given c.args.sink.now c.give.new.sink c.run_over_nodes-made.result c.give.result c.args.disks.now.items c.run_over_nodes-made.new.disks.items c.run_over_nodes-made.ensures.over c.give.ensures (g.S.Source.left c.args.source.now) (g.S.Source.left c.script_for.new.source) c.in-Ok.ensures.read (text_sits_once (g.S.Source.left c.args.source.now) (g.S.Source.left c.script_for.new.source) c.args.shown c.args.nodes c.in-Ok.script c.nodes_have_openings.ensures.read c.in-Ok.ensures.read) (text_fits (g.S.Source.left c.args.source.now) (g.S.Source.left c.script_for.new.source) c.args.shown c.args.nodes c.in-Ok.script c.requires.some (few_enough c.args.nodes c.requires.few) c.scripts_fit.ensures c.in-Ok.ensures.read) (record { laws = record { opens = c.nodes_have_openings.ensures.opens; ends = c.rounds_are_runs_of_the_world.ensures.ends; cut = c.rounds_are_runs_of_the_world.ensures.cut; raised = c.runs_follow_runs.ensures.raised; read = c.disks_are_read.ensures.read; ends_follow = c.runs_follow_runs.ensures.ends; cut_follows = c.runs_follow_runs.ensures.cut; ends_stand = c.runs_leave_standing_disks.ensures.ends; cut_stands = c.runs_leave_standing_disks.ensures.cut; ends_lawful = c.rounds_are_lawful.ensures.ends; cut_lawful = c.rounds_are_lawful.ensures.cut }; follows = c.runs_follow_runs.ensures.refused; stands = c.refused_runs_leave_standing_disks.ensures.refused; lawful = c.rounds_are_lawful.ensures.refused; touched = c.touched_disks_stay_coherent.ensures })

pub returns-in-Err-clause-coherent : goal.returns-in-Err-clause-coherent
returns-in-Err-clause-coherent g c = none_coherent g.D.Disk.told g.D.Disk.state c.args.nodes c.args.disks.now.items c.requires.few c.requires.disks

pub returns-clause-coherent : goal.returns-clause-coherent
returns-clause-coherent g c = these_coherent g.D.Disk.told g.D.Disk.state g.D.Disk.fault_count g.D.Disk.byte_count c.args.seed c.args.nodes c.in-Ok.script c.args.shown g.K.Sink.faults g.K.Sink.given c.args.sink.now c.give.new.sink c.run_over_nodes-made.result c.give.result c.args.disks.now.items c.run_over_nodes-made.new.disks.items c.run_over_nodes-made.ensures.over c.give.ensures (g.S.Source.left c.args.source.now) (g.S.Source.left c.script_for.new.source) c.in-Ok.ensures.read (text_sits_once (g.S.Source.left c.args.source.now) (g.S.Source.left c.script_for.new.source) c.args.shown c.args.nodes c.in-Ok.script c.nodes_have_openings.ensures.read c.in-Ok.ensures.read) (text_fits (g.S.Source.left c.args.source.now) (g.S.Source.left c.script_for.new.source) c.args.shown c.args.nodes c.in-Ok.script c.requires.some (few_enough c.args.nodes c.requires.few) c.scripts_fit.ensures c.in-Ok.ensures.read) (record { laws = record { opens = c.nodes_have_openings.ensures.opens; ends = c.rounds_are_runs_of_the_world.ensures.ends; cut = c.rounds_are_runs_of_the_world.ensures.cut; raised = c.runs_follow_runs.ensures.raised; read = c.disks_are_read.ensures.read; ends_follow = c.runs_follow_runs.ensures.ends; cut_follows = c.runs_follow_runs.ensures.cut; ends_stand = c.runs_leave_standing_disks.ensures.ends; cut_stands = c.runs_leave_standing_disks.ensures.cut; ends_lawful = c.rounds_are_lawful.ensures.ends; cut_lawful = c.rounds_are_lawful.ensures.cut }; follows = c.runs_follow_runs.ensures.refused; stands = c.refused_runs_leave_standing_disks.ensures.refused; lawful = c.rounds_are_lawful.ensures.refused; touched = c.touched_disks_stay_coherent.ensures })

pub returns-in-Err-clause-roomy : goal.returns-in-Err-clause-roomy
returns-in-Err-clause-roomy g c = none_roomy g.D.Disk.told g.D.Disk.state g.D.Disk.byte_count c.args.nodes c.args.disks.now.items c.requires.few c.requires.disks

pub returns-clause-roomy : goal.returns-clause-roomy
returns-clause-roomy g c = these_roomy g.D.Disk.told g.D.Disk.state g.D.Disk.fault_count g.D.Disk.byte_count c.args.seed c.args.nodes c.in-Ok.script c.args.shown g.K.Sink.faults g.K.Sink.given c.args.sink.now c.give.new.sink c.run_over_nodes-made.result c.give.result c.args.disks.now.items c.run_over_nodes-made.new.disks.items c.run_over_nodes-made.ensures.over c.give.ensures (text_sits_once (g.S.Source.left c.args.source.now) (g.S.Source.left c.script_for.new.source) c.args.shown c.args.nodes c.in-Ok.script c.nodes_have_openings.ensures.read c.in-Ok.ensures.read) (text_fits (g.S.Source.left c.args.source.now) (g.S.Source.left c.script_for.new.source) c.args.shown c.args.nodes c.in-Ok.script c.requires.some (few_enough c.args.nodes c.requires.few) c.scripts_fit.ensures c.in-Ok.ensures.read) (record { opens = c.nodes_have_openings.ensures.opens; ends = c.rounds_are_runs_of_the_world.ensures.ends; cut = c.rounds_are_runs_of_the_world.ensures.cut; raised = c.runs_follow_runs.ensures.raised; read = c.disks_are_read.ensures.read; ends_follow = c.runs_follow_runs.ensures.ends; cut_follows = c.runs_follow_runs.ensures.cut; ends_stand = c.runs_leave_standing_disks.ensures.ends; cut_stands = c.runs_leave_standing_disks.ensures.cut; ends_lawful = c.rounds_are_lawful.ensures.ends; cut_lawful = c.rounds_are_lawful.ensures.cut }) (record { ends = c.runs_leave_room.ensures.ends; cut = c.runs_leave_room.ensures.cut; refused = c.runs_leave_room.ensures.refused; read = c.roomy_disks_are_read.ensures })
