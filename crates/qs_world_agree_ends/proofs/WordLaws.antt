-- Where nobody who is told or has to ask awaits word, nobody does.
use Rattle.std.proofs.Common.{◌≡◌, ◌≢◌, ◌⊎◌, ◌∙◌, ℕ, Bool, inl, inr, zero, suc, true, false, List, refl, sym, subst, ap, arith}
use Rattle.qs_world_agree.specs.World.{Outcome, Open, Committed, Aborted, World}
use Rattle.qs_world_agree.specs.Origins.{Origin, IsOrigin, first}
use Rattle.qs_world_agree.specs.Step.{Event}
use Rattle.qs_world_agree.specs.Laws.{Run}
use Rattle.qs_world_agree.proofs.Whole.{Inv}
use Rattle.qs_world_agree.proofs.Inv.{inv_run}
use Rattle.qs_world_agree.proofs.Reopened.{inv_first}
use Rattle.qs_world_agree.proofs.Lawful.{inv_reached, answered_at, settled_at}
use Rattle.qs_world_agree_ends.specs.Moments.{IsAfter, up_from}
use Rattle.qs_world_agree_ends.specs.Waiting.{rose_in_doubt, AwaitsWord, IsBehind}
use Rattle.qs_world_agree_ends.specs.Word.{HomeHasDecided, NoneIsNext, NobodyAwaits}
use Rattle.qs_world_agree_ends.proofs.WaitingLaws.{awaits_behind}

either : (b : Bool) → (b ≡ true) ⊎ (b ≡ false)
either true = inl refl
either false = inr refl

pub home_has_decided : HomeHasDecided
home_has_decided w h r up same decided open_still =
    let i : Inv w = inv_reached w r in
    let now : w.present (w.node w.home) ≡ w.home = (i.whole (λ ab. cc (ab, open_still))).tree.home.home_present open_still in
    let at : h ≡ w.home = sym (i.counts.up_present h up) ∙ ap w.present same ∙ now in
    decided at (subst (λ (p : ℕ). w.outcome p ≡ Open) (sym at) ((i.keeps h).home_keeps (subst (λ (p : ℕ). w.up p ≡ true) at up) ∙ open_still))

-- the last step of a way up
last_step : (w : World) (n k : ℕ) → up_from w (suc n) k ≡ w.engager (up_from w n k)
last_step w zero k = refl
last_step w (suc n) k = last_step w n (w.engager k)

module _ (o : Origin) (es : List Event) (w : World) (is : IsOrigin o) (r : Run (first o) es w) (none : NoneIsNext o es w) where
  i : Inv w
  i = inv_run es (first o) w (inv_first o is) r

  -- a commit is told to whom it names
  commit : (k : ℕ) → w.cell ≡ Committed → AwaitsWord w k → ⊥
  commit k decided awaits = by awaits.part
    where
      by : (w.involved k ≡ true) ⊎ (w.engaged k ≡ true) → ⊥
      by (inl part) = let listed = (answered_at w i decided).in_doubt k awaits.away awaits.runs part awaits.unknown in none.listed k awaits part listed.1 listed.0
      by (inr on) = let off : w.engaged k ≡ false = (settled_at w i decided).passive k in cc (on, off)

  -- an abort to who was drawn in by a place that knows it, or has stopped
  next : (k : ℕ) → w.cell ≡ Aborted → AwaitsWord w k → IsAfter es w k → (w.engager k ≡ w.home) ⊎ ((w.up (w.engager k) ≡ false) ⊎ (w.outcome (w.engager k) ≢ Open)) → ⊥
  next k decided awaits some ends = by (either (w.up (w.engager k)))
    where
      kept : w.up (w.engager k) ≡ true → w.engager k ≡ w.home → w.outcome (w.engager k) ≡ Aborted
      kept up at = subst (λ (p : ℕ). w.outcome p ≡ Aborted) (sym at) ((i.keeps k).home_keeps (subst (λ (p : ℕ). w.up p ≡ true) at up) ∙ decided)

      known : (o : Outcome) → w.outcome (w.engager k) ≡ o → w.outcome (w.engager k) ≢ Open → w.outcome (w.engager k) ≡ Aborted
      known Open is other = absurd (other is)
      known Committed is other = let committed : w.cell ≡ Committed = i.outcomes.knows (w.engager k) is in absurd (cc (committed, decided))
      known Aborted is other = is

      knows : w.up (w.engager k) ≡ true → (w.engager k ≡ w.home) ⊎ ((w.up (w.engager k) ≡ false) ⊎ (w.outcome (w.engager k) ≢ Open)) → w.outcome (w.engager k) ≡ Aborted
      knows up (inl at) = kept up at
      knows up (inr (inl down)) = absurd (cc (up, down))
      knows up (inr (inr other)) = known (w.outcome (w.engager k)) refl other

      by : (w.up (w.engager k) ≡ true) ⊎ (w.up (w.engager k) ≡ false) → ⊥
      by (inl up) = none.told k awaits decided some up (knows up ends)
      by (inr down) = none.stopped k awaits decided some down

  -- and so nobody stands behind another
  behind : (n k : ℕ) → w.cell ≡ Aborted → (b : IsBehind es w k) → b.steps ≡ n → AwaitsWord w k → ⊥
  behind zero k decided b at awaits = here (subst (λ (m : ℕ). (up_from w m k ≡ w.home) ⊎ ((w.up (up_from w m k) ≡ false) ⊎ (w.outcome (up_from w m k) ≢ Open))) at b.ends)
    where
      here : (k ≡ w.home) ⊎ ((w.up k ≡ false) ⊎ (w.outcome k ≢ Open)) → ⊥
      here (inl same) = awaits.away (ap w.node same)
      here (inr (inl down)) = let up : w.up k ≡ true = awaits.runs in cc (up, down)
      here (inr (inr known)) = known awaits.unknown
  behind (suc n) k decided b at awaits =
      next (up_from w n k) decided (b.along n (omega (arith, at))) (b.after n (omega (arith, at)))
      (subst (λ (p : ℕ). (p ≡ w.home) ⊎ ((w.up p ≡ false) ⊎ (w.outcome p ≢ Open))) (ap (λ (m : ℕ). up_from w m k) at ∙ last_step w n k) b.ends)

  abort : (k : ℕ) → w.cell ≡ Aborted → AwaitsWord w k → ⊥
  abort k decided awaits = by (awaits_behind o es w k is r awaits)
    where
      by : (rose_in_doubt o es k ≡ true) ⊎ IsBehind es w k → ⊥
      by (inl rose) = none.risen k awaits decided rose
      by (inr b) = behind b.steps k decided b refl awaits

  pub none_awaits : (k : ℕ) → w.cell ≢ Open → AwaitsWord w k → ⊥
  none_awaits k decided awaits = by (w.cell) refl
    where
      by : (o : Outcome) → w.cell ≡ o → ⊥
      by Open still = decided still
      by Committed is = commit k is awaits
      by Aborted is = abort k is awaits

pub nobody_awaits : NobodyAwaits
nobody_awaits o es w k is r decided none awaits = none_awaits o es w is r none k decided awaits
