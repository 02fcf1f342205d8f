-- Six passes over two ends that know each other, and each has met the other.
use Rattle.std.proofs.Common.{◌≡◌, Bool, ℕ, true, false, arith, inl, inr}
use Rattle.std.specs.Prelude.{⊤}
use Rattle.qs_session_settling.specs.Pairs.{Pair, Step, swapped, stepped}
use Rattle.qs_session_settling.specs.Passes.{Passes}
use Rattle.qs_session_settling.specs.Consistent.{IsConsistent, OneRoseLast}
use Rattle.qs_session_settling.specs.Settled.{KnowEachOther, HaveMet}
use Rattle.qs_session_settling.proofs.Knowing.{acquainted}
use Rattle.qs_session_settling.proofs.Stages.{keeps_each}
use Rattle.qs_session_settling.proofs.Keeping.{keeps_swapped}
use Rattle.qs_session_settling.proofs.Rows.{Row, row_of, louder, consistent_on, parted, stays_row, keeps_row, staged_row, row_mirrored}
use Rattle.qs_session_settling.proofs.Behind.{behind_all}
use Rattle.qs_session_settling.proofs.Known.{Known, known_on, known_swapped}
use Rattle.qs_session_settling.proofs.Answering.{Answered, AllOwing}
use Rattle.qs_session_settling.proofs.Hearing.{RightSent, right_sent_on, RightHeard, RightAnswered, hearing, hears}
use Rattle.qs_session_settling.proofs.Asking.{Says, saying, answerable}
use Rattle.qs_session_settling.proofs.Calming.{LeftMet, IsMet, is_met_on, left_met_on, Calm, NamingBehind, calming, asking, Names}

-- the left end has asked: two passes answer it, and it stays met
asked : {M : Type 0} → (hello : M) (quiet : Bool) (n : ℕ) (old mid new : Pair M) → Known old → AllOwing 0 old → Row hello quiet 2 old mid → Row hello quiet n mid new → new.left.end.met ≡ true
asked hello quiet n old mid new k h first rest =
    let met = hears hello quiet 0 old mid (answerable old k) h first in
    keeps_row hello quiet Known IsMet (known_on hello quiet) (is_met_on hello quiet) n mid new rest (stays_row hello quiet Known (known_on hello quiet) 2 old mid first k) met.0

-- the right end is met: four passes, and the left one has asked and is answered
met_by : {M : Type 0} → (hello : M) (quiet : Bool) (old new : Pair M) → Known old → old.right.end.met ≡ true → Row hello quiet 4 old new → new.left.end.met ≡ true
met_by hello quiet old new k on row =
    let p = parted hello quiet 1 3 old new row in
    let q = parted hello quiet 1 2 p.0 new p.2 in
    let is : LeftMet (swapped old) = record { known = known_swapped old k; met = on } in
    let calm = staged_row hello quiet LeftMet NamingBehind Calm (left_met_on hello quiet) (calming hello quiet) (swapped old) (swapped p.0) (row_mirrored hello quiet 1 old p.0 p.1) is
    (behind_all (Names old.right.end old.left.end) old.right.link) in
    let is_one = stays_row hello quiet LeftMet (left_met_on hello quiet) 1 (swapped old) (swapped p.0) (row_mirrored hello quiet 1 old p.0 p.1) is in
    let asks = staged_row hello quiet LeftMet (λ n. Calm) (λ pair. AllOwing 0 (swapped pair)) (left_met_on hello quiet) (asking hello quiet) (swapped p.0) (swapped q.0) (row_mirrored hello quiet 1 p.0 q.0 q.1) is_one calm in
    let k_two = stays_row hello quiet Known (known_on hello quiet) 1 p.0 q.0 q.1 (stays_row hello quiet Known (known_on hello quiet) 1 old p.0 p.1 k) in
    (hears hello quiet 0 q.0 new (answerable q.0 k_two) asks q.2).0

-- the right end is answered, in the first of five
answered_first : {M : Type 0} → (hello : M) (quiet : Bool) (old new : Pair M) → Known old → Answered 0 (swapped old) → Row hello quiet 5 old new → new.left.end.met ≡ true
answered_first hello quiet old new k h row =
    let p = parted hello quiet 1 4 old new row in
    let met = staged_row hello quiet (RightSent 0) (RightAnswered 0) (RightHeard 0) (right_sent_on hello quiet 0) (hearing hello quiet 0) old p.0 p.1 (record { known = k; sent = grind arith }) h in
    met_by hello quiet p.0 new (stays_row hello quiet Known (known_on hello quiet) 1 old p.0 p.1 k) met.0 p.2

by_says : {M : Type 0} → (hello : M) (quiet : Bool) (old new : Pair M) → Known old → Says (swapped old) → Row hello quiet 5 old new → new.left.end.met ≡ true
by_says hello quiet old new k (inl h) row = let p = parted hello quiet 2 3 old new row in asked hello quiet 3 old p.0 new k h p.1 p.2
by_says hello quiet old new k (inr h) row = answered_first hello quiet old new k h row

pub left_meets : {M : Type 0} → (hello : M) (quiet : Bool) (old new : Pair M) → Known old → Row hello quiet 6 old new → new.left.end.met ≡ true
left_meets hello quiet old new k row =
    let p = parted hello quiet 1 5 old new row in
    let says = staged_row hello quiet Known (λ n pair. ⊤) Says (known_on hello quiet) (saying hello quiet) (swapped old) (swapped p.0) (row_mirrored hello quiet 1 old p.0 p.1) (known_swapped old k) tt in
    by_says hello quiet p.0 new (stays_row hello quiet Known (known_on hello quiet) 1 old p.0 p.1 k) says p.2

pub met : {M : Type 0} → (hello : M) (quiet : Bool) (old new : Pair M) → Known old → Row hello quiet 6 old new → HaveMet new
met hello quiet old new k row =
    let last = stays_row hello quiet Known (known_on hello quiet) 6 old new row k in
    record { known = record { left = last.left; right = last.right }; left = left_meets hello quiet old new k row; right = left_meets hello quiet (swapped old) (swapped new) (known_swapped old k) (row_mirrored hello quiet 6 old new row) }

pub meets : {M : Type 0} → (hello : M) (old new : Pair M) → IsConsistent old → KnowEachOther old → Passes hello 6 old new → HaveMet new
meets hello old new is k passes = met hello false old new (record { is = is; left = k.left; right = k.right }) (row_of hello 6 old new passes)

-- the first three of a row make the two known to each other
pub known_first : {M : Type 0} → (hello : M) (quiet : Bool) (old mid : Pair M) → IsConsistent old → OneRoseLast old → Row hello quiet 3 old mid → Known mid
known_first hello quiet old mid is r row =
    let k = acquainted hello old mid is r (louder hello quiet 3 old mid row) in
    record { is = stays_row hello quiet IsConsistent (consistent_on hello quiet) 3 old mid row is; left = k.left; right = k.right }

pub met_whole : {M : Type 0} → (hello : M) (quiet : Bool) (old new : Pair M) → IsConsistent old → OneRoseLast old → Row hello quiet 9 old new → HaveMet new
met_whole hello quiet old new is r row = let p = parted hello quiet 3 6 old new row in met hello quiet p.0 new (known_first hello quiet old p.0 is r p.1) p.2

pub has_met : {M : Type 0} → (hello : M) (old new : Pair M) → IsConsistent old → OneRoseLast old → Passes hello 9 old new → HaveMet new
has_met hello old new is r passes = met_whole hello false old new is r (row_of hello 9 old new passes)

-- ---- and each step keeps it

know_on : {M : Type 0} → (hello : M) (step : Step M) (pair : Pair M) → IsConsistent pair → KnowEachOther pair → Known (stepped hello step pair)
know_on hello step pair is k = known_on hello false step tt pair (record { is = is; left = k.left; right = k.right })

pub stays_known : {M : Type 0} → (hello : M) (step : Step M) (pair : Pair M) → IsConsistent pair → KnowEachOther pair → KnowEachOther (stepped hello step pair)
stays_known hello step pair is k = let on = know_on hello step pair is k in record { left = on.left; right = on.right }

pub stays_met : {M : Type 0} → (hello : M) (step : Step M) (pair : Pair M) → IsConsistent pair → HaveMet pair → HaveMet (stepped hello step pair)
stays_met hello step pair is m =
    let k : Known pair = record { is = is; left = m.known.left; right = m.known.right } in
    let met = is_met_on hello false in
    record {
      known = stays_known hello step pair is m.known;
      left = keeps_each hello false Known IsMet met step tt pair k m.left;
      right = keeps_each hello false (λ x. Known (swapped x)) (λ x. IsMet (swapped x)) (keeps_swapped hello false Known IsMet met) step tt pair (known_swapped pair k) m.right;
    }
