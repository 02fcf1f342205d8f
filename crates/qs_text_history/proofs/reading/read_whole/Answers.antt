use Rattle.std.proofs.Common.{◌≡◌, ◌+◌, sym, ◌∙◌, ap}
use Rattle.qs_text_history.specs.Inner.Reader.{reading_of}
use Rattle.qs_text_history.proofs.LoopLemmas.{fault_end}
use Rattle.qs_text_history.proofs.reading.read_whole.Goals as goal

pub returns-then-not-is_open-clause-fault : goal.returns-then-not-is_open-clause-fault
returns-then-not-is_open-clause-fault c = λ line e.
    let read = c.in_ok-read.read in
    let number : line ≡ read.count + 1 = cc e in
    fault_end c.args.text.now (reading_of read.reader) read.count line c.in_ok-read.ensures.reads c.in_ok-read.ensures.count number (sym c.is_open.ensures ∙ c.if-not-is_open.true)

pub returns-clause-read : goal.returns-clause-read
returns-clause-read c =
    let read = c.in_ok-read.read in
    let finished = c.in_ok-journal.ensures in
    record {
      reading = reading_of read.reader;
      reads = c.in_ok-read.ensures.reads;
      is_whole = sym c.is_open.ensures ∙ c.if-not-is_open.false;
      opened = finished.opened;
      entries = finished.entries;
      first = finished.first ∙ ap (λ n. n + 1) c.in_ok-read.ensures.count;
    }
