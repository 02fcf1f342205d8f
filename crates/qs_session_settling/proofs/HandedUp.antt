-- What is kept is handed up: pass by pass, and from whatever a run left.
use Rattle.std.proofs.Common.{◌≡◌, ◌≢◌, ◌⊎◌, Bool, ℕ, ◌+◌, ◌≤◌, false, arith, length, inl, inr}
use Rattle.std.proofs.lemmas.Bool.{cases_eq}
use Rattle.std.proofs.lemmas.Bool.Decides.{nat_tests}
use Rattle.qs_session_channels.specs.End.{End, sent}
use Rattle.qs_session_settling.specs.Pairs.{Pair, swapped}
use Rattle.qs_session_settling.specs.Passes.{Passes}
use Rattle.qs_session_settling.specs.Consistent.{IsConsistent, OneRoseLast, handed_up}
use Rattle.qs_session_settling.specs.Settled.{KnowEachOther, AllHandedUp, sent_to}
use Rattle.qs_session_settling.proofs.Ticking.{sending}
use Rattle.qs_session_settling.proofs.Staying.{other_way}
use Rattle.qs_session_settling.proofs.Stages.{Keeps}
use Rattle.qs_session_settling.proofs.Rows.{Row, row_of, parted, consistent_on, stays_row, keeps_row, row_mirrored}
use Rattle.qs_session_settling.proofs.Learning.{heard}
use Rattle.qs_session_settling.proofs.Known.{Known, known_on, known_swapped, advances}
use Rattle.qs_session_settling.proofs.Meeting.{known_first}
use Rattle.qs_session_settling.proofs.HandingUp.{hands_up_left}

pub up_to : {M : Type 0} → (a b c d : End M) (t : ℕ) → d.known ≡ c.mine → (a.known ≡ b.mine → a.acked + length a.kept ≤ t) → t ≤ d.taken → sent_to a b ≤ handed_up c d
up_to a b c d t knows sent taken = by_known (cases_eq a.known b.mine)
  where
    by_known : (a.known ≡ b.mine) ⊎ (a.known ≢ b.mine) → sent_to a b ≤ handed_up c d
    by_known (inl same) = grind (arith, nat_tests, same, knows, sent same, taken)
    by_known (inr other) = grind (arith, nat_tests, other)

both_handed_up : {M : Type 0} → (hello : M) (old mid new : Pair M) → Known old → Row hello false 1 old mid → Row hello false 1 mid new → AllHandedUp mid new
both_handed_up hello old mid new k first second =
    let last = stays_row hello false Known (known_on hello false) 1 mid new second (stays_row hello false Known (known_on hello false) 1 old mid first k) in
    record {
      left = up_to mid.left.end mid.right.end new.left.end new.right.end (mid.left.end.acked + length mid.left.end.kept) last.right (λ same. grind arith) (hands_up_left hello false old mid new k first second);
      right = up_to mid.right.end mid.left.end new.right.end new.left.end (mid.right.end.acked + length mid.right.end.kept) last.left (λ same. grind arith)
          (hands_up_left hello false (swapped old) (swapped mid) (swapped new) (known_swapped old k) (row_mirrored hello false 1 old mid first) (row_mirrored hello false 1 mid new second));
    }

pub hands_up : {M : Type 0} → (hello : M) (old mid new : Pair M) → IsConsistent old → KnowEachOther old → Passes hello 1 old mid → Passes hello 1 mid new → AllHandedUp mid new
hands_up hello old mid new is k first second = both_handed_up hello old mid new (record { is = is; left = k.left; right = k.right }) (row_of hello 1 old mid first) (row_of hello 1 mid new second)

-- ---- an end that knows the other's present incarnation goes on to, and has as many messages for it, or more

abbrev Has : {M : Type 0} → ℕ → Pair M → Type 0
Has t pair = (pair.left.end.known ≡ pair.right.end.mine) × (t ≤ pair.left.end.acked + length pair.left.end.kept)

has_on : {M : Type 0} → (hello : M) (quiet : Bool) (t : ℕ) → Keeps hello quiet IsConsistent (Has t)
has_on hello quiet t = record {
  bears = record {
    left_takes = λ a b la ps p is h. let v = advances a p (grind (arith, is.right.old.0.by, h.0)) in (grind (arith, h.0, v.known), grind (arith, h.1, v.sum));
    left_sends = λ on a b la lb x stamp is h. let s = sending a x stamp in (grind (arith, h.0, s.known), grind (arith, h.1, s.acked, s.kept));
    left_ticks = λ a b la lb stamp is h. h;
    right_sends = λ on a b la lb x stamp is h. (grind (arith, h.0, (sending b x stamp).mine), h.1);
    right_ticks = λ a b la lb stamp is h. h;
  };
  right_takes = λ a b ps lb p is h. (grind (arith, h.0, (heard b p).mine), h.1);
}

left_arrives : {M : Type 0} → (hello : M) (quiet : Bool) (old one two new : Pair M) → IsConsistent old → Row hello quiet 4 old two → Known one → Row hello quiet 1 one two → Row hello quiet 1 two new → Known new → sent_to old.left.end old.right.end ≤ handed_up new.left.end new.right.end
left_arrives hello quiet old one two new is row k first second last =
    let t = two.left.end.acked + length two.left.end.kept in
    up_to old.left.end old.right.end new.left.end new.right.end t last.right
    (λ same. (keeps_row hello quiet IsConsistent (Has (old.left.end.acked + length old.left.end.kept)) (consistent_on hello quiet) (has_on hello quiet (old.left.end.acked + length old.left.end.kept)) 4 old two row is (same, grind arith)).1)
    (hands_up_left hello quiet one two new k first second)

pub handed_up_whole : {M : Type 0} → (hello : M) (quiet : Bool) (old new : Pair M) → IsConsistent old → OneRoseLast old → Row hello quiet 5 old new → AllHandedUp old new
handed_up_whole hello quiet old new is r row =
    let p = parted hello quiet 4 1 old new row in
    let q = parted hello quiet 3 1 old p.0 p.1 in
    let k = known_first hello quiet old q.0 is r q.1 in
    let last = stays_row hello quiet Known (known_on hello quiet) 1 p.0 new p.2 (stays_row hello quiet Known (known_on hello quiet) 1 q.0 p.0 q.2 k) in
    record {
      left = left_arrives hello quiet old q.0 p.0 new is p.1 k q.2 p.2 last;
      right = left_arrives hello quiet (swapped old) (swapped q.0) (swapped p.0) (swapped new) (other_way old is) (row_mirrored hello quiet 4 old p.0 p.1) (known_swapped q.0 k) (row_mirrored hello quiet 1 q.0 p.0 q.2) (row_mirrored hello quiet 1 p.0 new p.2) (known_swapped new last);
    }

pub has_handed_up : {M : Type 0} → (hello : M) (old new : Pair M) → IsConsistent old → OneRoseLast old → Passes hello 5 old new → AllHandedUp old new
has_handed_up hello old new is r passes = handed_up_whole hello false old new is r (row_of hello 5 old new passes)
