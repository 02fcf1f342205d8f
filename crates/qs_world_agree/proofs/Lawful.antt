-- The laws, from the invariant.
use Rattle.std.proofs.Common.{◌≡◌, ◌≢◌, ◌⊎◌, ℕ, ◌≤◌, inl, inr, false, List, refl, arith}
use Rattle.qs_world_agree.specs.World.{Outcome, Open, Committed, Aborted, World}
use Rattle.qs_world_agree.specs.Origins.{Origin, IsOrigin, first}
use Rattle.qs_world_agree.specs.Guards.{Votes}
use Rattle.qs_world_agree.specs.Step.{Event}
use Rattle.qs_world_agree.specs.Laws.{Run, IsReached, IsSettled, IsAnswered, IsInvolved, IsAgreed, IsSilenced}
use Rattle.qs_world_agree.proofs.Tree.{Tree, sender_engaged}
use Rattle.qs_world_agree.proofs.Whole.{Inv, Whole}
use Rattle.qs_world_agree.proofs.Inv.{inv_run, kept_run}
use Rattle.qs_world_agree.proofs.Reopened.{inv_first}

pub settled_at : (w : World) → Inv w → w.cell ≡ Committed → IsSettled w
settled_at w i is =
    let g : Whole w = i.whole (λ a. cc (a, is)) in
    let off : (p : ℕ) → w.engaged p ≡ false = λ p. (g.tree.at p).committed is in
    let took : (p m k : ℕ) → 1 ≤ k → k ≤ w.sent p m → 1 ≤ w.received_at p m k = λ p m k from to. g.places.covered_taken p m k (gone_off w p g.tree (off p)) from (covers w p m k g.tree (off p) to) in
    record {
      taken = λ p m k from to. (took p m k from to, (g.places.taken p m k (took p m k from to)).0);
      came = λ p m k from to. (g.arrivals p m k).came (took p m k from to);
      served = λ q s. served_all w q s g.tree (off q) (i.servers q s).served_arrived;
      voted = λ q s votes. voted_all w q s g.tree (off q) votes (i.servers q s).voted_served (i.servers q s).served_arrived;
      loans = λ q. loans_off w q g.tree (off q);
      abort_votes = λ q. against_off w q g.tree (off q);
      covered = λ p m. covers_all w p m g.tree (off p) (i.counts.covered_sent p m);
      passive = off;
      none_left = λ q p next. let on = sender_engaged w i.counts g.places g.tree q p next in let none = off p in cc (on, none);
    }
  where
    gone_off : (w : World) (p : ℕ) → Tree w → w.engaged p ≡ false → w.gone p ≡ false
    gone_off w p t off = grind (arith, (t.at p).gone_engaged, off)

    covers : (w : World) (p m k : ℕ) → Tree w → w.engaged p ≡ false → k ≤ w.sent p m → k ≤ w.covered p m
    covers w p m k t off to = grind (arith, (t.at p).open_engaged m, off)

    covers_all : (w : World) (p m : ℕ) → Tree w → w.engaged p ≡ false → w.covered p m ≤ w.sent p m → w.covered p m ≡ w.sent p m
    covers_all w p m t off below = grind (arith, (t.at p).open_engaged m, off)

    served_all : (w : World) (q s : ℕ) → Tree w → w.engaged q ≡ false → w.served q s ≤ w.arrived q s → w.served q s ≡ w.arrived q s
    served_all w q s t off below = grind (arith, (t.at q).waits_engaged s, off)

    voted_all : (w : World) (q s : ℕ) → Tree w → w.engaged q ≡ false → Votes w q s → w.voted q s ≤ w.served q s → w.served q s ≤ w.arrived q s → w.voted q s ≡ w.arrived q s
    voted_all w q s t off votes a b = grind (arith, (t.at q).vote_engaged s votes, off)

    loans_off : (w : World) (p : ℕ) → Tree w → w.engaged p ≡ false → w.loans p ≡ 0
    loans_off w p t off = grind (arith, (t.at p).loan_engaged, off)

    against_off : (w : World) (p : ℕ) → Tree w → w.engaged p ≡ false → w.abort_vote p ≡ false
    against_off w p t off = grind (arith, (t.at p).against_engaged, off)

is_aborted : (o : Outcome) → (o ≡ Aborted) ⊎ (o ≢ Aborted)
is_aborted Open = inr (λ e. cc)
is_aborted Committed = inr (λ e. cc)
is_aborted Aborted = inl refl

pub agreed_at : (w : World) → Inv w → IsAgreed w
agreed_at w i = record {
  commits = i.outcomes.learnt;
  aborts = λ n learnt. elim (is_aborted w.cell) [ inl is ↦ is | inr other ↦ absurd (let off = (i.whole other).silent.learnt n in cc) ];
  knows_commit = i.outcomes.knows;
  knows_abort = λ p knows. elim (is_aborted w.cell) [ inl is ↦ is | inr other ↦ absurd ((i.whole other).silent.unknown p knows) ];
  told_commit = i.outcomes.tells;
  told_abort = λ n tell. elim (is_aborted w.cell) [ inl is ↦ is | inr other ↦ absurd (let off = (i.whole other).silent.tells n in cc) ];
  kept = (i.keeps w.home).home_keeps;
}

pub answered_at : (w : World) → Inv w → w.cell ≡ Committed → IsAnswered w
answered_at w i is =
    let g : Whole w = i.whole (λ a. cc (a, is)) in
    record {
      in_log = λ n s other prepared. ((g.owed n).listed is other ((g.owed n).log_held s prepared), ((g.logged n s).in_log is other prepared).0);
      in_doubt = λ p other on part unknown.
          ((g.owed (w.node p)).listed is other ((g.owed (w.node p)).involved_held p on part refl), ((g.doubt p).in_doubt is on part unknown other).0);
      stands = i.outcomes.stands;
      known = λ h logged on same. (g.knows h).knows is logged on same;
      home_clear = λ s. g.silent.home_clear s is;
    }

pub involved_at : (w : World) → Inv w → w.cell ≡ Committed → IsInvolved w
involved_at w i is =
    let g : Whole w = i.whole (λ a. cc (a, is)) in
    record {
      sender = λ p m. (i.involved p m).sender;
      one_phase = λ p s. (i.involved p s).one_phase;
      prepared = λ p s other on prepared. (g.prepares p s).takes_part on prepared other;
    }

pub silenced_at : (es : List Event) (w v : World) → Inv w → Run w es v → IsSilenced w v
silenced_at es w v i r = record {
  known = λ q. (kept_run es w v q i r).known;
  served = λ q s. (kept_run es w v q i r).served s;
  voted = λ q s. (kept_run es w v q i r).voted s;
}

reach : (o : Origin) (es : List Event) (w : World) → IsOrigin o → Run (first o) es w → Inv w
reach o es w is r = inv_run es (first o) w (inv_first o is) r

pub inv_reached : (w : World) → IsReached w → Inv w
inv_reached w r = reach r.origin r.events w r.begins r.run

pub settled : (o : Origin) (es : List Event) (v : World) → IsOrigin o → Run (first o) es v → v.cell ≡ Committed → IsSettled v
settled o es v is r = settled_at v (reach o es v is r)

pub answered : (o : Origin) (es : List Event) (v : World) → IsOrigin o → Run (first o) es v → v.cell ≡ Committed → IsAnswered v
answered o es v is r = answered_at v (reach o es v is r)

pub involved : (o : Origin) (es : List Event) (v : World) → IsOrigin o → Run (first o) es v → v.cell ≡ Committed → IsInvolved v
involved o es v is r = involved_at v (reach o es v is r)

pub agreed : (o : Origin) (es : List Event) (v : World) → IsOrigin o → Run (first o) es v → IsAgreed v
agreed o es v is r = agreed_at v (reach o es v is r)

pub silenced : (o : Origin) (before after : List Event) (mid v : World) → IsOrigin o → Run (first o) before mid → Run mid after v → IsSilenced mid v
silenced o before after mid v is r next = silenced_at after mid v (reach o before mid is r) next
