use Rattle.std.proofs.Common.{◌≡◌, ◌<◌, ◌≤◌, ◌+◌, ◌++◌, ◌∷◌, [], length, arith, rules, length-append}
use Rattle.qs_text_history.specs.Journal.{span}
use Rattle.qs_text_history.specs.Inner.Reader.{reading_of}
use Rattle.qs_text_history.specs.Reading.{at_start, Follows}
use Rattle.qs_text_history.proofs.FollowLemmas.{follows_each, reads_more}
use Rattle.qs_text_history.proofs.LoopLemmas.{follows_taken, none_follows, entries_follow, whole_more, span_more, fault_stops, fault_past}
use Rattle.qs_text_history.proofs.reading.read_on.Goals as goal

pub returns-then-text-after-gt-HISTORY_LIMIT-clause-fault : goal.returns-then-text-after-gt-HISTORY_LIMIT-clause-fault
returns-then-text-after-gt-HISTORY_LIMIT-clause-fault c = λ line e.
    let i = c.loop-rest.invariant in
    let n = c.next_line.ensures in
    let number : line ≡ c.loop-rest.count + 1 = cc e in
    let some : 0 < length c.loop-rest.rest.now = search rules in
    fault_past c.args.text.now c.loop-rest.rest.now c.next_line.result.0.now c.next_line.result.1.now i.lines (reading_of c.loop-rest.reader) c.loop-rest.count line
    i.whole n.first i.reads i.counted number (omega (arith, c.if-text-after-gt-HISTORY_LIMIT.true)) i.used n.span (i.spans some)

pub returns-then-not-taken-clause-fault : goal.returns-then-not-taken-clause-fault
returns-then-not-taken-clause-fault c = λ line e.
    let i = c.loop-rest.invariant in
    let n = c.next_line.ensures in
    let number : line ≡ c.loop-rest.count + 1 = cc e in
    fault_stops c.args.text.now c.loop-rest.rest.now c.next_line.result.0.now c.next_line.result.1.now i.lines (reading_of c.loop-rest.reader) c.loop-rest.count line
    i.whole n.first i.reads i.counted number
    (none_follows c.loop-rest.reader.begun (reading_of c.loop-rest.reader) (reading_of c.next.new.self) c.next_line.result.0.now c.in_ok-taken.taken i.knows c.if-not-taken.true c.in_ok-taken.ensures.read)

pub loop-rest-preserved : goal.loop-rest-preserved
loop-rest-preserved c =
    let i = c.loop-rest.invariant in
    let n = c.next_line.ensures in
    let line = c.next_line.result.0.now in
    let f : Follows (reading_of c.loop-rest.reader) line (reading_of c.next.new.self) =
    follows_taken c.loop-rest.reader.begun (reading_of c.loop-rest.reader) (reading_of c.next.new.self) line c.in_ok-taken.taken i.knows i.each c.if-not-taken.false c.in_ok-taken.ensures.read in
    let more : length c.next.new.self.entries ≤ length c.loop-rest.reader.entries + 1 = entries_follow (reading_of c.loop-rest.reader) line (reading_of c.next.new.self) f in
    let spanned : span (i.lines ++ line ∷ []) ≡ span i.lines + (length line + 1) = span_more i.lines line in
    let some : 0 < length c.loop-rest.rest.now = search rules in
    let was : span i.lines + length c.loop-rest.rest.now ≡ length c.args.text.now = i.spans some in
    record {
      lines = i.lines ++ line ∷ [];
      whole = whole_more c.args.text.now c.loop-rest.rest.now line c.next_line.result.1.now i.lines i.whole n.first;
      reads = reads_more i.lines at_start (reading_of c.loop-rest.reader) (reading_of c.next.new.self) line i.reads f;
      knows = c.in_ok-taken.ensures.knows i.knows c.if-not-taken.false;
      each = follows_each (reading_of c.loop-rest.reader) line (reading_of c.next.new.self) f i.each;
      counted = omega (arith, i.counted, length-append i.lines (line ∷ []));
      entries = omega (arith, more, i.entries);
      room = omega (arith, i.room, n.shorter);
      used = omega (arith, c.if-text-after-gt-HISTORY_LIMIT.false);
      spans = λ left. omega (arith, was, spanned, n.more left);
    }
