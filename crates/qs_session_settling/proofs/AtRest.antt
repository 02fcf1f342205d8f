-- Two ends come to rest, and so settle: the laws, put together.
use Rattle.std.proofs.Common.{◌≡◌, Bool, ℕ, ◌≤◌, true, false, refl, sym, subst, ap, arith, List, [], ◌∷◌, ◌++◌, length}
use Rattle.std.proofs.lemmas.List.{nil_from_length}
use Rattle.std.proofs.lemmas.Bool.Decides.{nat_tests}
use Rattle.qs_session_channels.specs.End.{End, Packet, ticked, tick_packets}
use Rattle.qs_session_settling.specs.Pairs.{Pair, Action, Take, Send, Tick, Step, Left, Right, swapped, stepped}
use Rattle.qs_session_settling.specs.Passes.{QuietPasses, sends_none}
use Rattle.qs_session_settling.specs.Consistent.{IsConsistent, OneRoseLast, handed_up}
use Rattle.qs_session_settling.specs.Settled.{KnowEachOther, HaveMet, IsAtRest, AllHandedUp, IsSettled, sent_to}
use Rattle.qs_session_settling.proofs.Staying.{pair_of, other_way}
use Rattle.qs_session_settling.proofs.Rows.{Row, quiet_row, parted, joined, stays_row, keeps_row, staged_row, row_mirrored}
use Rattle.qs_session_settling.proofs.Behind.{behind_all}
use Rattle.qs_session_settling.proofs.Known.{Known, known_on, known_swapped}
use Rattle.qs_session_settling.proofs.Answering.{HasTaken, has_taken_on}
use Rattle.qs_session_settling.proofs.Calming.{IsMet, is_met_on}
use Rattle.qs_session_settling.proofs.Meeting.{known_first, met}
use Rattle.qs_session_settling.proofs.HandedUp.{handed_up_whole}
use Rattle.qs_session_settling.proofs.Acknowledging.{none_kept}
use Rattle.qs_session_settling.proofs.Quieting.{Still, still_swapped, still_on, KeepsNone, keeps_none_on, Bare, Quieted, BareBehind, quieting, Silent, silent_on, puts_none, AtMost, emptying}

-- ---- at rest

known_of : {M : Type 0} → (pair : Pair M) → IsConsistent pair → KnowEachOther pair → Known pair
known_of pair is k = record { is = is; left = k.left; right = k.right }

rest_swapped : {M : Type 0} → (pair : Pair M) → IsAtRest pair → IsAtRest (swapped pair)
rest_swapped pair r = record { known = record { left = r.known.right; right = r.known.left }; left = r.right; right = r.left; left_link = r.right_link; right_link = r.left_link }

left_silent : {M : Type 0} → (hello : M) (pair : Pair M) → IsConsistent pair → IsAtRest pair → (stamp : ℕ) → tick_packets hello pair.left.end stamp ≡ []
left_silent hello pair is r stamp = puts_none hello pair stamp (known_of pair is r.known) r.left.met r.left.owed (ap length r.left.kept)

pub is_silent : {M : Type 0} → (hello : M) (pair : Pair M) → IsConsistent pair → IsAtRest pair → (stamp : ℕ) → (tick_packets hello pair.left.end stamp ≡ []) × (tick_packets hello pair.right.end stamp ≡ [])
is_silent hello pair is r stamp = (left_silent hello pair is r stamp, left_silent hello (swapped pair) (other_way pair is) (rest_swapped pair r) stamp)

ticked_same : {M : Type 0} → (e : End M) → e.owed ≡ false → ticked e ≡ e
ticked_same e off = ap (λ owed. record e { owed = owed }) (sym off)

put_none : {M : Type 0} → (xs ys : List (Packet M)) → xs ≡ [] → ys ≡ [] → xs ++ ys ≡ xs
put_none xs ys none more = grind (arith, none, more)

left_rests : {M : Type 0} → (hello : M) (action : Action M) (a b : End M) (la lb : List (Packet M)) → IsConsistent (pair_of a b la lb) → IsAtRest (pair_of a b la lb) → sends_none (Left action ∷ []) ≡ true → stepped hello (Left action) (pair_of a b la lb) ≡ pair_of a b la lb
left_rests hello Take a b la [] is r none = refl
left_rests hello Take a b la (p ∷ ps) is r none = absurd (grind (arith, ap length r.right_link))
left_rests hello (Send x stamp) a b la lb is r none = absurd (grind (arith, none))
left_rests {M} hello (Tick stamp) a b la lb is r none =
    let more = put_none la (tick_packets hello a stamp) r.left_link (left_silent hello (pair_of a b la lb) is r stamp) in
    subst (λ (ps : List (Packet M)). pair_of (ticked a) b ps lb ≡ pair_of a b la lb) (sym more) (ap (λ e. pair_of e b la lb) (ticked_same a r.left.owed))

right_none : {M : Type 0} → (action : Action M) → sends_none (Right action ∷ []) ≡ true → sends_none (Left action ∷ []) ≡ true
right_none Take none = refl
right_none (Send x stamp) none = absurd (grind (arith, none))
right_none (Tick stamp) none = refl

pub rests : {M : Type 0} → (hello : M) (step : Step M) (pair : Pair M) → IsConsistent pair → IsAtRest pair → sends_none (step ∷ []) ≡ true → stepped hello step pair ≡ pair
rests hello (Left action) pair is r none = left_rests hello action pair.left.end pair.right.end pair.left.link pair.right.link is r none
rests hello (Right action) pair is r none =
    ap swapped (left_rests hello action pair.right.end pair.left.end pair.right.link pair.left.link (other_way pair is) (rest_swapped pair r) (right_none action none))

-- ---- two more passes over two that have met and keep nothing

quiets : {M : Type 0} → (hello : M) (old new : Pair M) → Still old → Row hello true 1 old new → Quieted new
quiets hello old new is row = staged_row hello true Still BareBehind Quieted (still_on hello) (quieting hello) old new row is (behind_all (Bare old.left.end old.right.end) old.left.link)

empties : {M : Type 0} → (hello : M) (old new : Pair M) → Silent old → Row hello true 1 old new → length new.left.link ≤ 0
empties hello old new is row = staged_row hello true Silent AtMost (AtMost 0) (silent_on hello) (emptying hello) old new row is (grind arith)

come_to_rest : {M : Type 0} → (hello : M) (old new : Pair M) → Still old → Row hello true 2 old new → IsAtRest new
come_to_rest hello old new is row =
    let p = parted hello true 1 1 old new row in
    let s : Silent p.0 = record {
      still = stays_row hello true Still (still_on hello) 1 old p.0 p.1 is;
      right = quiets hello old p.0 is p.1;
      left = quiets hello (swapped old) (swapped p.0) (still_swapped old is) (row_mirrored hello true 1 old p.0 p.1);
    } in
    let back : Silent (swapped p.0) = record { still = still_swapped p.0 s.still; right = s.left; left = s.right } in
    let last = stays_row hello true Silent (silent_on hello) 1 p.0 new p.2 s in
    record {
      known = record { left = last.still.known.left; right = last.still.known.right };
      left = record { kept = nil_from_length new.left.end.kept (grind (arith, last.still.left_none)); owed = last.left.0; met = last.still.left_met };
      right = record { kept = nil_from_length new.right.end.kept (grind (arith, last.still.right_none)); owed = last.right.0; met = last.still.right_met };
      left_link = nil_from_length new.left.link (grind (arith, empties hello p.0 new s p.2));
      right_link = nil_from_length new.right.link (grind (arith, empties hello (swapped p.0) (swapped new) back (row_mirrored hello true 1 p.0 new p.2)));
    }

-- ---- three passes leave nothing kept, and so five bring two that have met to rest

left_none : {M : Type 0} → (hello : M) (n : ℕ) (old mid new : Pair M) → Known old → Row hello true 3 old mid → Row hello true n mid new → length new.left.end.kept ≡ 0
left_none hello n old mid new k first rest =
    keeps_row hello true Known KeepsNone (known_on hello true) (keeps_none_on hello) n mid new rest (stays_row hello true Known (known_on hello true) 3 old mid first k) (none_kept hello old mid k first)

still_by : {M : Type 0} → (hello : M) (n : ℕ) (old mid new : Pair M) → Known old → Row hello true 3 old mid → Row hello true n mid new → HaveMet new → Still new
still_by hello n old mid new k first rest m = record {
  known = stays_row hello true Known (known_on hello true) n mid new rest (stays_row hello true Known (known_on hello true) 3 old mid first k);
  left_met = m.left;
  right_met = m.right;
  left_none = left_none hello n old mid new k first rest;
  right_none = left_none hello n (swapped old) (swapped mid) (swapped new) (known_swapped old k) (row_mirrored hello true 3 old mid first) (row_mirrored hello true n mid new rest);
}

stay_met : {M : Type 0} → (hello : M) (quiet : Bool) (n : ℕ) (old new : Pair M) → Known old → HaveMet old → Row hello quiet n old new → HaveMet new
stay_met hello quiet n old new k m row =
    let last = stays_row hello quiet Known (known_on hello quiet) n old new row k in
    record {
      known = record { left = last.left; right = last.right };
      left = keeps_row hello quiet Known IsMet (known_on hello quiet) (is_met_on hello quiet) n old new row k m.left;
      right = keeps_row hello quiet Known IsMet (known_on hello quiet) (is_met_on hello quiet) n (swapped old) (swapped new) (row_mirrored hello quiet n old new row) (known_swapped old k) m.right;
    }

pub falls_silent : {M : Type 0} → (hello : M) (old new : Pair M) → IsConsistent old → HaveMet old → QuietPasses hello 5 old new → IsAtRest new
falls_silent hello old new is m passes =
    let k = known_of old is m.known in
    let p = parted hello true 3 2 old new (quiet_row hello 5 old new passes) in
    come_to_rest hello p.0 new (still_by hello 0 old p.0 p.0 k p.1 refl (stay_met hello true 3 old p.0 k m p.1)) p.2

-- ---- and eleven settle whatever a run left

stay_handed_up : {M : Type 0} → (a b : End M) (mid new : Pair M) → Known mid → Known new → mid.right.end.taken ≤ new.right.end.taken → sent_to a b ≤ handed_up mid.left.end mid.right.end → sent_to a b ≤ handed_up new.left.end new.right.end
stay_handed_up a b mid new k last more is = grind (arith, nat_tests, is, k.right, last.right, more)

up_on : {M : Type 0} → (hello : M) (n : ℕ) (old mid new : Pair M) → Known mid → AllHandedUp old mid → Row hello true n mid new → AllHandedUp old new
up_on hello n old mid new k up row =
    let last = stays_row hello true Known (known_on hello true) n mid new row k in
    let rises = keeps_row hello true Known (HasTaken mid.right.end.taken) (known_on hello true) (has_taken_on hello true mid.right.end.taken) n mid new row k (grind arith) in
    let back = keeps_row hello true Known (HasTaken mid.left.end.taken) (known_on hello true) (has_taken_on hello true mid.left.end.taken) n (swapped mid) (swapped new) (row_mirrored hello true n mid new row) (known_swapped mid k) (grind arith) in
    record {
      left = stay_handed_up old.left.end old.right.end mid new k last rises up.left;
      right = stay_handed_up old.right.end old.left.end (swapped mid) (swapped new) (known_swapped mid k) (known_swapped new last) back up.right;
    }

-- what was kept is handed up in the first five
up_whole : {M : Type 0} → (hello : M) (old new : Pair M) → IsConsistent old → OneRoseLast old → Row hello true 11 old new → AllHandedUp old new
up_whole hello old new is r row =
    let p = parted hello true 5 6 old new row in
    let q = parted hello true 3 2 old p.0 p.1 in
    let k = stays_row hello true Known (known_on hello true) 2 q.0 p.0 q.2 (known_first hello true old q.0 is r q.1) in
    up_on hello 6 old p.0 new k (handed_up_whole hello true old p.0 is r p.1) p.2

-- after three they know each other, after three more nothing is kept, after three more they have met, and two bring them to rest
rest_whole : {M : Type 0} → (hello : M) (old new : Pair M) → IsConsistent old → OneRoseLast old → Row hello true 11 old new → IsAtRest new
rest_whole hello old new is r row =
    let p = parted hello true 3 8 old new row in
    let k = known_first hello true old p.0 is r p.1 in
    let q = parted hello true 3 5 p.0 new p.2 in
    let t = parted hello true 3 2 q.0 new q.2 in
    let m = met hello true p.0 t.0 k (joined hello true 3 3 6 p.0 q.0 t.0 refl q.1 t.1) in
    come_to_rest hello t.0 new (still_by hello 3 p.0 q.0 t.0 k q.1 t.1 m) t.2

pub settled : {M : Type 0} → (hello : M) (old new : Pair M) → IsConsistent old → OneRoseLast old → Row hello true 11 old new → IsSettled old new
settled hello old new is r row =
    let rest = rest_whole hello old new is r row in
    record { met = record { known = rest.known; left = rest.left.met; right = rest.right.met }; handed_up = up_whole hello old new is r row; rests = rest }

pub settles : {M : Type 0} → (hello : M) (old new : Pair M) → IsConsistent old → OneRoseLast old → QuietPasses hello 11 old new → IsSettled old new
settles hello old new is r passes = settled hello old new is r (quiet_row hello 11 old new passes)
