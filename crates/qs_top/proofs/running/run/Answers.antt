use Rattle.std.proofs.Common.{◌≡◌, ◌⊎◌, ◌^◌, ap, ℕ, subst, sym, Err, Some}
use Rattle.std.specs.Io.KnownBytes.{Appends}
use Rattle.std.specs.Prelude.{⊤}
use Rattle.qs_base.specs.Causes.{Rose}
use Rattle.qs_io.specs.Streams.{GivesPart}
use Rattle.qs_log.specs.Image.{IsDamaged}
use Rattle.qs_text_script.specs.Script.{script_of}
use Rattle.qs_text_script.specs.declared.reading.ScriptFailed.TheVariants.{Fault}
use Rattle.qs_top.specs.Disks.{AreOnlyTouched, AtNode, OfThese, StayCoherent, StayRoomy}
use Rattle.qs_top.specs.Ran.{RanByRounds, RanNotBegun, RanOutOfMemory, RanRefused, RanShort, RanWhole}
use Rattle.qs_top.specs.Run.{IsNotBegun, IsRefused, IsShort, IsWhole}
use Rattle.qs_top.specs.Statuses.{IsEnd}
use Rattle.qs_top.specs.declared.asking.Asked.TheVariants as Asked
use Rattle.qs_top.specs.Texts.{HasText, OfScript}
use Rattle.qs_text.specs.declared.given.Shown.{Shown}
use Rattle.qs_text_script.specs.Words.{form_of}
use Rattle.qs_top.specs.Asking.{asked_by, nodes_of}
use Rattle.qs_top.proofs.Forms.{as_asked, by_asked, few_nodes, some_nodes}
use Rattle.qs_top.proofs.NodesLawful.{none_lawful}
use Rattle.qs_top.proofs.Promised.{cut_of, out_of, promised, refused_of, whole_of}
use Rattle.qs_top.proofs.running.run.Goals as goal

-- src/running.rt:206:1
pub returns-in-Some-Check-clause-lawful : goal.returns-in-Some-Check-clause-lawful
returns-in-Some-Check-clause-lawful g c = none_lawful g.D.Disk.told g.D.Disk.state (nodes_of (asked_by (form_of c.args.words.now))) c.ended.result.journal c.args.disks.now.items c.args.disks.now.items c.ended.ensures.nothing.entries

-- src/running.rt:206:1
pub returns-in-None-clause-lawful : goal.returns-in-None-clause-lawful
returns-in-None-clause-lawful g c = none_lawful g.D.Disk.told g.D.Disk.state (nodes_of (asked_by (form_of c.args.words.now))) c.ended-in-None.result.journal c.args.disks.now.items c.args.disks.now.items c.ended-in-None.ensures.nothing.entries

pub returns-in-Some-Serial-clause-disk_fault : goal.returns-in-Some-Serial-clause-disk_fault
returns-in-Some-Serial-clause-disk_fault g c = λ node is.
    let asked : asked_by (form_of c.args.words.now) ≡ Some (Asked.Serial c.in-Some-Serial.nodes c.in-Some-Serial.seed c.in-Some-Serial.shown) = cc (c.asked_by.ensures, c.in-Some-Serial.is, c.in-Some-Serial.field-0-is) in
    subst (λ (n : ℕ). AtNode n node (λ disk after. Rose (g.D.Disk.fault_count disk) (g.D.Disk.fault_count after)) c.args.disks.now.items c.run_script.new.disks.items) (sym (ap nodes_of asked)) (c.run_script.ensures.disk_fault node is)

pub returns-in-Some-Serial-clause-damaged : goal.returns-in-Some-Serial-clause-damaged
returns-in-Some-Serial-clause-damaged g c = λ node at is.
    let asked : asked_by (form_of c.args.words.now) ≡ Some (Asked.Serial c.in-Some-Serial.nodes c.in-Some-Serial.seed c.in-Some-Serial.shown) = cc (c.asked_by.ensures, c.in-Some-Serial.is, c.in-Some-Serial.field-0-is) in
    subst (λ (n : ℕ). AtNode n node (λ disk after. g.D.Disk.told → IsDamaged (2 ^ 61) (g.D.Disk.state disk).content at) c.args.disks.now.items c.run_script.new.disks.items) (sym (ap nodes_of asked)) (c.run_script.ensures.damaged node at is)

pub returns-in-Some-Serial-clause-script : goal.returns-in-Some-Serial-clause-script
returns-in-Some-Serial-clause-script g c = λ nodes seed shown asked line fault is.
    let one : asked_by (form_of c.args.words.now) ≡ Some (Asked.Serial c.in-Some-Serial.nodes c.in-Some-Serial.seed c.in-Some-Serial.shown) = cc (c.asked_by.ensures, c.in-Some-Serial.is, c.in-Some-Serial.field-0-is) in
    as_asked (λ (n : ℕ) (sh : Shown). HasText sh (g.S.Source.left c.args.source.now) (g.S.Source.left c.run_script.new.source) (λ text. script_of n text ≡ Err (Fault line fault)))
    (asked_by (form_of c.args.words.now)) c.in-Some-Serial.nodes c.in-Some-Serial.seed nodes seed c.in-Some-Serial.shown shown one asked
    (c.run_script.ensures.script line fault is)

pub returns-in-Some-Serial-clause-ended : goal.returns-in-Some-Serial-clause-ended
returns-in-Some-Serial-clause-ended g c = λ nodes seed shown asked end.
    let one : asked_by (form_of c.args.words.now) ≡ Some (Asked.Serial c.in-Some-Serial.nodes c.in-Some-Serial.seed c.in-Some-Serial.shown) = cc (c.asked_by.ensures, c.in-Some-Serial.is, c.in-Some-Serial.field-0-is) in
    as_asked (λ (n : ℕ) (sh : Shown). HasText sh (g.S.Source.left c.args.source.now) (g.S.Source.left c.run_script.new.source) (OfScript n (λ script. OfThese n (IsWhole g.D.Disk.told g.D.Disk.state n script sh (λ status. c.run_script.result.status ≡ status) (Appends (g.K.Sink.given c.args.sink.now) (g.K.Sink.given c.run_script.new.sink)) c.run_script.result.journal c.run_script.result.trace) c.args.disks.now.items c.run_script.new.disks.items)))
    (asked_by (form_of c.args.words.now)) c.in-Some-Serial.nodes c.in-Some-Serial.seed nodes seed c.in-Some-Serial.shown shown one asked
    (promised (g.S.Source.left c.args.source.now) (g.S.Source.left c.run_script.new.source) c.in-Some-Serial.shown c.in-Some-Serial.nodes c.args.disks.now.items c.run_script.new.disks.items (λ script. RanWhole g.D.Disk.told g.D.Disk.state g.D.Disk.fault_count g.D.Disk.byte_count c.in-Some-Serial.seed c.in-Some-Serial.nodes script c.in-Some-Serial.shown (λ status. c.run_script.result.status ≡ status) (Appends (g.K.Sink.given c.args.sink.now) (g.K.Sink.given c.run_script.new.sink)) c.run_script.result.journal c.run_script.result.trace) (λ script. IsWhole g.D.Disk.told g.D.Disk.state c.in-Some-Serial.nodes script c.in-Some-Serial.shown (λ status. c.run_script.result.status ≡ status) (Appends (g.K.Sink.given c.args.sink.now) (g.K.Sink.given c.run_script.new.sink)) c.run_script.result.journal c.run_script.result.trace)
    (whole_of g.D.Disk.told g.D.Disk.state g.D.Disk.fault_count g.D.Disk.byte_count c.in-Some-Serial.seed c.in-Some-Serial.nodes c.in-Some-Serial.shown (λ status. c.run_script.result.status ≡ status) (Appends (g.K.Sink.given c.args.sink.now) (g.K.Sink.given c.run_script.new.sink)) c.run_script.result.journal c.run_script.result.trace) (c.run_script.ensures.by_rounds.ended end))

pub returns-in-Some-Serial-clause-cut_off : goal.returns-in-Some-Serial-clause-cut_off
returns-in-Some-Serial-clause-cut_off g c = λ nodes seed shown asked fault.
    let one : asked_by (form_of c.args.words.now) ≡ Some (Asked.Serial c.in-Some-Serial.nodes c.in-Some-Serial.seed c.in-Some-Serial.shown) = cc (c.asked_by.ensures, c.in-Some-Serial.is, c.in-Some-Serial.field-0-is) in
    as_asked (λ (n : ℕ) (sh : Shown). HasText sh (g.S.Source.left c.args.source.now) (g.S.Source.left c.run_script.new.source) (OfScript n (λ script. OfThese n (IsWhole g.D.Disk.told g.D.Disk.state n script sh IsEnd (GivesPart (g.K.Sink.given c.args.sink.now) (g.K.Sink.given c.run_script.new.sink)) c.run_script.result.journal c.run_script.result.trace) c.args.disks.now.items c.run_script.new.disks.items)))
    (asked_by (form_of c.args.words.now)) c.in-Some-Serial.nodes c.in-Some-Serial.seed nodes seed c.in-Some-Serial.shown shown one asked
    (promised (g.S.Source.left c.args.source.now) (g.S.Source.left c.run_script.new.source) c.in-Some-Serial.shown c.in-Some-Serial.nodes c.args.disks.now.items c.run_script.new.disks.items (λ script. RanWhole g.D.Disk.told g.D.Disk.state g.D.Disk.fault_count g.D.Disk.byte_count c.in-Some-Serial.seed c.in-Some-Serial.nodes script c.in-Some-Serial.shown IsEnd (GivesPart (g.K.Sink.given c.args.sink.now) (g.K.Sink.given c.run_script.new.sink)) c.run_script.result.journal c.run_script.result.trace) (λ script. IsWhole g.D.Disk.told g.D.Disk.state c.in-Some-Serial.nodes script c.in-Some-Serial.shown IsEnd (GivesPart (g.K.Sink.given c.args.sink.now) (g.K.Sink.given c.run_script.new.sink)) c.run_script.result.journal c.run_script.result.trace)
    (whole_of g.D.Disk.told g.D.Disk.state g.D.Disk.fault_count g.D.Disk.byte_count c.in-Some-Serial.seed c.in-Some-Serial.nodes c.in-Some-Serial.shown IsEnd (GivesPart (g.K.Sink.given c.args.sink.now) (g.K.Sink.given c.run_script.new.sink)) c.run_script.result.journal c.run_script.result.trace) (c.run_script.ensures.by_rounds.cut_off fault))

pub returns-in-Some-Serial-clause-cut_short : goal.returns-in-Some-Serial-clause-cut_short
returns-in-Some-Serial-clause-cut_short g c = λ nodes seed shown asked node is.
    let one : asked_by (form_of c.args.words.now) ≡ Some (Asked.Serial c.in-Some-Serial.nodes c.in-Some-Serial.seed c.in-Some-Serial.shown) = cc (c.asked_by.ensures, c.in-Some-Serial.is, c.in-Some-Serial.field-0-is) in
    as_asked (λ (n : ℕ) (sh : Shown). HasText sh (g.S.Source.left c.args.source.now) (g.S.Source.left c.run_script.new.source) (OfScript n (λ script. OfThese n (λ firsts afters. IsNotBegun g.D.Disk.told g.D.Disk.state c.run_script.result.journal c.run_script.result.trace firsts afters ⊎ IsShort g.D.Disk.told g.D.Disk.state n script c.run_script.result.journal c.run_script.result.trace firsts afters) c.args.disks.now.items c.run_script.new.disks.items)))
    (asked_by (form_of c.args.words.now)) c.in-Some-Serial.nodes c.in-Some-Serial.seed nodes seed c.in-Some-Serial.shown shown one asked
    (promised (g.S.Source.left c.args.source.now) (g.S.Source.left c.run_script.new.source) c.in-Some-Serial.shown c.in-Some-Serial.nodes c.args.disks.now.items c.run_script.new.disks.items (λ script. (λ firsts afters. RanNotBegun g.D.Disk.told g.D.Disk.state g.D.Disk.fault_count g.D.Disk.byte_count node c.run_script.result.journal c.run_script.result.trace firsts afters ⊎ RanShort g.D.Disk.told g.D.Disk.state g.D.Disk.fault_count g.D.Disk.byte_count c.in-Some-Serial.seed c.in-Some-Serial.nodes script node c.run_script.result.journal c.run_script.result.trace firsts afters)) (λ script. (λ firsts afters. IsNotBegun g.D.Disk.told g.D.Disk.state c.run_script.result.journal c.run_script.result.trace firsts afters ⊎ IsShort g.D.Disk.told g.D.Disk.state c.in-Some-Serial.nodes script c.run_script.result.journal c.run_script.result.trace firsts afters))
    (cut_of g.D.Disk.told g.D.Disk.state g.D.Disk.fault_count g.D.Disk.byte_count c.in-Some-Serial.seed c.in-Some-Serial.nodes node c.run_script.result.journal c.run_script.result.trace) (c.run_script.ensures.by_rounds.cut_short node is))

pub returns-in-Some-Serial-clause-refused : goal.returns-in-Some-Serial-clause-refused
returns-in-Some-Serial-clause-refused g c = λ nodes seed shown asked line clause is.
    let one : asked_by (form_of c.args.words.now) ≡ Some (Asked.Serial c.in-Some-Serial.nodes c.in-Some-Serial.seed c.in-Some-Serial.shown) = cc (c.asked_by.ensures, c.in-Some-Serial.is, c.in-Some-Serial.field-0-is) in
    as_asked (λ (n : ℕ) (sh : Shown). HasText sh (g.S.Source.left c.args.source.now) (g.S.Source.left c.run_script.new.source) (OfScript n (λ script. OfThese n (IsRefused g.D.Disk.told g.D.Disk.state n script line clause) c.args.disks.now.items c.run_script.new.disks.items)))
    (asked_by (form_of c.args.words.now)) c.in-Some-Serial.nodes c.in-Some-Serial.seed nodes seed c.in-Some-Serial.shown shown one asked
    (promised (g.S.Source.left c.args.source.now) (g.S.Source.left c.run_script.new.source) c.in-Some-Serial.shown c.in-Some-Serial.nodes c.args.disks.now.items c.run_script.new.disks.items (λ script. RanRefused g.D.Disk.told g.D.Disk.state g.D.Disk.fault_count g.D.Disk.byte_count c.in-Some-Serial.seed c.in-Some-Serial.nodes script line clause) (λ script. IsRefused g.D.Disk.told g.D.Disk.state c.in-Some-Serial.nodes script line clause)
    (refused_of g.D.Disk.told g.D.Disk.state g.D.Disk.fault_count g.D.Disk.byte_count c.in-Some-Serial.seed c.in-Some-Serial.nodes line clause) (c.run_script.ensures.by_rounds.refused line clause is))

pub returns-in-Some-Serial-clause-out_of_memory : goal.returns-in-Some-Serial-clause-out_of_memory
returns-in-Some-Serial-clause-out_of_memory g c = λ nodes seed shown asked is.
    let one : asked_by (form_of c.args.words.now) ≡ Some (Asked.Serial c.in-Some-Serial.nodes c.in-Some-Serial.seed c.in-Some-Serial.shown) = cc (c.asked_by.ensures, c.in-Some-Serial.is, c.in-Some-Serial.field-0-is) in
    as_asked (λ (n : ℕ) (sh : Shown). OfThese n (AreOnlyTouched g.D.Disk.told g.D.Disk.state) c.args.disks.now.items c.run_script.new.disks.items ⊎ HasText sh (g.S.Source.left c.args.source.now) (g.S.Source.left c.run_script.new.source) (OfScript n (λ script. ⊤)))
    (asked_by (form_of c.args.words.now)) c.in-Some-Serial.nodes c.in-Some-Serial.seed nodes seed c.in-Some-Serial.shown shown one asked
    (out_of (g.S.Source.left c.args.source.now) (g.S.Source.left c.run_script.new.source) c.in-Some-Serial.shown c.in-Some-Serial.nodes c.args.disks.now.items c.run_script.new.disks.items (AreOnlyTouched g.D.Disk.told g.D.Disk.state) (RanOutOfMemory g.D.Disk.told g.D.Disk.state g.D.Disk.fault_count g.D.Disk.byte_count c.in-Some-Serial.seed) (c.run_script.ensures.by_rounds.out_of_memory is))

pub returns-in-Some-Serial-clause-coherent : goal.returns-in-Some-Serial-clause-coherent
returns-in-Some-Serial-clause-coherent g c = λ nodes seed shown asked.
    let one : asked_by (form_of c.args.words.now) ≡ Some (Asked.Serial c.in-Some-Serial.nodes c.in-Some-Serial.seed c.in-Some-Serial.shown) = cc (c.asked_by.ensures, c.in-Some-Serial.is, c.in-Some-Serial.field-0-is) in
    as_asked (λ (n : ℕ) (sh : Shown). OfThese n (StayCoherent g.D.Disk.told g.D.Disk.state) c.args.disks.now.items c.run_script.new.disks.items)
    (asked_by (form_of c.args.words.now)) c.in-Some-Serial.nodes c.in-Some-Serial.seed nodes seed c.in-Some-Serial.shown shown one asked
    c.run_script.ensures.coherent

pub returns-in-Some-Serial-clause-roomy : goal.returns-in-Some-Serial-clause-roomy
returns-in-Some-Serial-clause-roomy g c = λ nodes seed shown asked.
    let one : asked_by (form_of c.args.words.now) ≡ Some (Asked.Serial c.in-Some-Serial.nodes c.in-Some-Serial.seed c.in-Some-Serial.shown) = cc (c.asked_by.ensures, c.in-Some-Serial.is, c.in-Some-Serial.field-0-is) in
    as_asked (λ (n : ℕ) (sh : Shown). OfThese n (StayRoomy g.D.Disk.told g.D.Disk.state g.D.Disk.byte_count) c.args.disks.now.items c.run_script.new.disks.items)
    (asked_by (form_of c.args.words.now)) c.in-Some-Serial.nodes c.in-Some-Serial.seed nodes seed c.in-Some-Serial.shown shown one asked
    c.run_script.ensures.roomy

pub returns-in-Some-Serial-clause-by_rounds : goal.returns-in-Some-Serial-clause-by_rounds
returns-in-Some-Serial-clause-by_rounds g c = λ nodes seed shown asked.
    let one : asked_by (form_of c.args.words.now) ≡ Some (Asked.Serial c.in-Some-Serial.nodes c.in-Some-Serial.seed c.in-Some-Serial.shown) = cc (c.asked_by.ensures, c.in-Some-Serial.is, c.in-Some-Serial.field-0-is) in
    by_asked (λ (n s : ℕ) (sh : Shown). RanByRounds g.D.Disk.told g.D.Disk.state g.D.Disk.fault_count g.D.Disk.byte_count s n sh (g.S.Source.left c.args.source.now) (g.S.Source.left c.run_script.new.source) (g.K.Sink.given c.args.sink.now) (g.K.Sink.given c.run_script.new.sink) c.run_script.result c.args.disks.now.items c.run_script.new.disks.items)
    (asked_by (form_of c.args.words.now)) c.in-Some-Serial.nodes c.in-Some-Serial.seed nodes seed c.in-Some-Serial.shown shown one asked
    c.run_script.ensures.by_rounds

-- src/running.rt:355:55
pub run_script-requires-clause-some : goal.run_script-requires-clause-some
run_script-requires-clause-some g c =
    let asked : asked_by (form_of c.args.words.now) ≡ Some (Asked.Serial c.in-Some-Serial.nodes c.in-Some-Serial.seed c.in-Some-Serial.shown) = cc (c.asked_by.ensures, c.in-Some-Serial.is, c.in-Some-Serial.field-0-is) in
    some_nodes (form_of c.args.words.now) c.in-Some-Serial.nodes c.in-Some-Serial.seed c.in-Some-Serial.shown asked

-- src/running.rt:355:55
pub run_script-requires-clause-few : goal.run_script-requires-clause-few
run_script-requires-clause-few g c =
    let asked : asked_by (form_of c.args.words.now) ≡ Some (Asked.Serial c.in-Some-Serial.nodes c.in-Some-Serial.seed c.in-Some-Serial.shown) = cc (c.asked_by.ensures, c.in-Some-Serial.is, c.in-Some-Serial.field-0-is) in
    few_nodes (form_of c.args.words.now) c.in-Some-Serial.nodes c.in-Some-Serial.seed c.in-Some-Serial.shown asked
