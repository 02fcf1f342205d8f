-- What a run of the network leaves of two nodes that run.
use Rattle.std.proofs.Common.{◌≡◌, ◌≢◌, ◌⊎◌, ℕ, ◌≤◌, true, subst, arith, List, [], ◌∷◌, length, inl, inr}
use Rattle.std.proofs.lemmas.Bool.{cases_eq}
use Rattle.std.proofs.lemmas.Bool.Decides.{nat_tests}
use Rattle.qs_session_channels.specs.End.{Packet}
use Rattle.qs_session_channels.specs.Network.{Network, Event, Among, Run, start}
use Rattle.qs_session_channels.specs.Channels.{Channels, opening}
use Rattle.qs_session_channels.specs.Shown.{Shows}
use Rattle.qs_session_channels.specs.Laws.{HasMet}
use Rattle.qs_session_channels.proofs.RunShown.{runs, start_shown}
use Rattle.qs_session_channels.proofs.Meeting.{has_met}
use Rattle.qs_session_settling.specs.Pairs.{Pair}
use Rattle.qs_session_settling.specs.Passes.{QuietPasses}
use Rattle.qs_session_settling.specs.Consistent.{IsOld, AreOld, handed_up, IsConsistentSide, IsConsistent, AreBefore, RoseLast, OneRoseLast}
use Rattle.qs_session_settling.specs.Settled.{IsSettled}
use Rattle.qs_session_settling.specs.Ran.{AreAmong, between, AreUp}
use Rattle.qs_session_settling.proofs.Rising.{Rose, Ranged, ranged}
use Rattle.qs_session_settling.proofs.AtRest.{settles}

module _ {M : Type 0} (w : Network M) (c : Channels M) (r : Shows w c) (k : Ranged w) (met : HasMet w) where
  one_old : (n m : ℕ) (p : Packet M) → w.up n ≡ true → w.up m ≡ true → Among (w.packets n m) p → IsOld (w.end n m) (w.end m n) p
  one_old n m p one two sent =
      let own = r.own n m one in
      let other = r.own m n two in
      let good = r.packets n m p sent in
      record {
        by = grind (arith, own.mine, good.from);
        for = grind (arith, other.mine, k.for n m p sent);
        here = λ same. k.here n m p sent (grind (arith, same, own.mine)) one;
        ack = λ same to. acks (grind (arith, same, own.mine)) (grind (arith, to, other.mine));
      }
    where
      knows : p.inc ≡ w.inc n → p.to_inc ≡ w.inc m → (w.end n m).known ≡ w.inc m
      knows same to = grind (arith, k.here n m p sent same one, (r.own n m one).there, to)

      acks : p.inc ≡ w.inc n → p.to_inc ≡ w.inc m → p.ack ≤ (w.end n m).taken
      acks same to =
          let taken : (w.end n m).taken ≡ length (c.handed m n (w.inc m) (w.inc n)) = subst (λ j. (w.end n m).taken ≡ length (c.handed m n j (w.inc n))) (knows same to) ((r.own n m one).taken (grind (arith, knows same to, (r.own m n two).born))) in
          let acked : p.ack ≤ length (c.handed m n (w.inc m) (w.inc n)) = subst (λ i. p.ack ≤ length (c.handed m n (w.inc m) i)) same (subst (λ j. p.ack ≤ length (c.handed m n j p.inc)) to ((r.packets n m p sent).ack (grind (arith, to, (r.own m n two).born)))) in
          grind (arith, taken, acked)

  all_old : (n m : ℕ) (ps : List (Packet M)) → w.up n ≡ true → w.up m ≡ true → AreAmong (w.packets n m) ps → AreOld (w.end n m) (w.end m n) ps
  all_old n m [] one two sent = tt
  all_old n m (p ∷ ps) one two sent = (one_old n m p one two sent.0, all_old n m ps one two sent.1)

  is_acked : (n m : ℕ) → w.up n ≡ true → w.up m ≡ true → (w.end n m).known ≡ w.inc m → (w.end n m).acked ≤ handed_up (w.end n m) (w.end m n)
  is_acked n m one two knows = by_known (cases_eq (w.end m n).known (w.inc n))
    where
      acked : (w.end n m).acked ≤ length (c.handed n m (w.inc n) (w.inc m))
      acked = subst (λ j. (w.end n m).acked ≤ length (c.handed n m (w.inc n) j)) knows ((r.own n m one).acked (grind (arith, knows, (r.own m n two).born)))

      by_known : ((w.end m n).known ≡ w.inc n) ⊎ ((w.end m n).known ≢ w.inc n) → (w.end n m).acked ≤ handed_up (w.end n m) (w.end m n)
      by_known (inl same) =
          let taken : (w.end m n).taken ≡ length (c.handed n m (w.inc n) (w.inc m)) = subst (λ i. (w.end m n).taken ≡ length (c.handed n m i (w.inc m))) same ((r.own m n two).taken (grind (arith, same, (r.own n m one).born))) in
          grind (arith, nat_tests, same, (r.own n m one).mine, taken, acked)
      by_known (inr other) =
          let none = (r.own m n two).unhanded (w.inc n) (grind (arith, other, (r.own m n two).there)) in
          let zero : (w.end n m).acked ≤ 0 = subst (λ xs. (w.end n m).acked ≤ length xs) none acked in
          grind (arith, zero)

  side : (n m : ℕ) (ps : List (Packet M)) → w.up n ≡ true → w.up m ≡ true → AreAmong (w.packets n m) ps → IsConsistentSide (w.end n m) (w.end m n) ps
  side n m ps one two sent =
      let own = r.own n m one in
      let other = r.own m n two in
      record {
        some = grind (arith, own.mine, own.born);
        knows = grind (arith, own.there, other.mine);
        old = all_old n m ps one two sent;
        met = λ on same. grind (arith, met n m one two on, same, own.mine, other.mine);
        acked = λ same. is_acked n m one two (grind (arith, same, other.mine));
      }

  all_before : (n m : ℕ) (ps : List (Packet M)) → w.up n ≡ true → w.up m ≡ true → Rose w n m → AreAmong (w.packets m n) ps → AreBefore (w.end n m) (w.end m n) ps
  all_before n m [] one two rose sent = tt
  all_before n m (p ∷ ps) one two rose sent = ((λ old. grind (arith, rose.packets p sent.0, old, (r.own n m one).mine, (r.own m n two).mine)), all_before n m ps one two rose sent.1)

  last : (n m : ℕ) (there back : List (Packet M)) → w.up n ≡ true → w.up m ≡ true → AreAmong (w.packets m n) back → Rose w n m → RoseLast (between w n m there back)
  last n m there back one two sent rose = record { packets = all_before n m back one two rose sent; met = λ on. grind (arith, rose.met on, (r.own m n two).mine) }

  one_last : (n m : ℕ) (there back : List (Packet M)) → AreUp w n m there back → Rose w n m ⊎ Rose w m n → OneRoseLast (between w n m there back)
  one_last n m there back up (inl rose) = inl (last n m there back up.left up.right up.sent_back rose)
  one_last n m there back up (inr rose) = inr (last m n back there up.right up.left up.sent_there rose)

  pub shown_leaves : (n m : ℕ) (there back : List (Packet M)) → AreUp w n m there back → IsConsistent (between w n m there back) × OneRoseLast (between w n m there back)
  shown_leaves n m there back up =
      (record { left = side n m there up.left up.right up.sent_there; right = side m n back up.right up.left up.sent_back }, one_last n m there back up (k.rose n m up.left up.right))

pub run_leaves : {M : Type 0} → (hello : M) (inc : ℕ → ℕ) (es : List (Event M)) (w : Network M) → Run hello (start inc) es w → (n m : ℕ) (there back : List (Packet M)) → AreUp w n m there back
    → IsConsistent (between w n m there back) × OneRoseLast (between w n m there back)
run_leaves hello inc es w run n m there back up =
    let d = runs hello es (start inc) w (opening inc) (start_shown inc) run in
    shown_leaves w d.0 d.2 (ranged hello inc es w (opening inc) (start_shown inc) run) (has_met hello inc es w (opening inc) (start_shown inc) run) n m there back up

pub run_settles : {M : Type 0} → (hello : M) (inc : ℕ → ℕ) (es : List (Event M)) (w : Network M) → Run hello (start inc) es w → (n m : ℕ) (there back : List (Packet M)) → AreUp w n m there back
    → (new : Pair M) → QuietPasses hello 11 (between w n m there back) new → IsSettled (between w n m there back) new
run_settles hello inc es w run n m there back up new passes =
    let l = run_leaves hello inc es w run n m there back up in
    settles hello (between w n m there back) new l.0 l.1 passes
