-- A run that commits has no abort vote and no refusal among its events.
use Rattle.std.proofs.Common.{◌≡◌, ◌≢◌, ◌⊎◌, ◌∙◌, ℕ, inl, inr, true, false, List, [], ◌∷◌, ◌++◌, refl, sym, subst, arith}
use Rattle.std.proofs.lemmas.Bool.Decides.{nat_tests}
use Rattle.qs_world_agree.specs.World.{Committed, Aborted, World}
use Rattle.qs_world_agree.specs.Origins.{Origin, IsOrigin, first}
use Rattle.qs_world_agree.specs.Step.{Event, Vote_abort, Miss, Refuse, Commit, Commit_cut, Commit_unlogged, Tell, Answer_commit, Learn, Learn_cut, Learn_home, Acknowledge, Take_told, End, Step}
use Rattle.qs_world_agree.specs.Laws.{Run}
use Rattle.qs_world_agree.specs.Events.{Happens, IsOpposed, NeverCommits}
use Rattle.qs_world_agree.proofs.Lasts.{Lasts}
use Rattle.qs_world_agree.proofs.LastsTable.{lasts_step}
use Rattle.qs_world_agree.proofs.Whole.{Inv}
use Rattle.qs_world_agree.proofs.Carries.{run_append}
use Rattle.qs_world_agree.proofs.Inv.{inv_step, inv_run}
use Rattle.qs_world_agree.proofs.Reopened.{inv_first}

-- over a run
pub lasts_run : (es : List Event) (w v : World) (k : ℕ) → Inv w → Run w es v → Lasts w v k
lasts_run [] w v k i r = subst (λ (x : World). Lasts w x k) (sym r) (record { node = refl; home = refl; against = λ is. is; gone = λ is. is; refused = λ on is. inr (on, is); committed = λ is. is; aborted = λ is. is })
lasts_run (e ∷ es) w v k i r =
    let first : Lasts w r.0 k = lasts_step e w r.0 k i.keeps r.1 in
    let rest : Lasts r.0 v k = lasts_run es r.0 v k (inv_step e w r.0 i r.1) r.2 in
    record {
      node = rest.node ∙ first.node;
      home = rest.home ∙ first.home;
      against = λ is. rest.against (first.against is);
      gone = λ is. rest.gone (first.gone is);
      refused = λ on is. elim (first.refused on is) [
        | inl aborted ↦ inl (rest.aborted aborted)
        | inr waits ↦ rest.refused waits.0 waits.1
      ];
      committed = λ is. rest.committed (first.committed is);
      aborted = λ is. rest.aborted (first.aborted is);
    }

-- what an event leaves, where it lasts to the end of a run
pub found : (P : World → Type 0) → ((a b : World) → Inv a → (es : List Event) → Run a es b → P a → P b)
    → (e : Event) → ((a b : World) → Inv a → Step e a b → P b)
    → (es : List Event) (w v : World) → Inv w → Run w es v → Happens es e → P v
found P lasts e does [] w v i r has = absurd has
found P lasts e does (x ∷ es) w v i r (inl is) =
    lasts r.0 v (inv_step x w r.0 i r.1) es r.2 (does w r.0 i (subst (λ (y : Event). Step y w r.0) is r.1))
found P lasts e does (x ∷ es) w v i r (inr more) = found P lasts e does es r.0 v (inv_step x w r.0 i r.1) r.2 more

-- an event that commit is decided before or by leaves a commit
committed_by : (e : Event) → ((a b : World) → Inv a → Step e a b → b.cell ≡ Committed) → (es : List Event) (w v : World) → Inv w → Run w es v → v.cell ≢ Committed → Happens es e → ⊥
committed_by e does es w v i r other has = other (found (λ x. x.cell ≡ Committed) (λ a b j fs s is. (lasts_run fs a b 0 j s).committed is) e does es w v i r has)

-- where commit is decided already, it is after the event
known : (e : Event) (a b : World) → Inv a → Step e a b → a.cell ≡ Committed → b.cell ≡ Committed
known e a b i s is = (lasts_step e a b 0 i.keeps s).committed is

pub never : (es : List Event) (w v : World) → Inv w → Run w es v → v.cell ≢ Committed → NeverCommits es v
never es w v i r other = record {
  commit = committed_by Commit (λ a b j s. rw s.1 refl) es w v i r other;
  commit_cut = committed_by Commit_cut (λ a b j s. rw s.1 refl) es w v i r other;
  commit_unlogged = committed_by Commit_unlogged (λ a b j s. rw s.3 refl) es w v i r other;
  tell = λ h n. committed_by (Tell h n) (λ a b j s. known (Tell h n) a b j s (j.outcomes.knows h s.2)) es w v i r other;
  answer = λ h q. committed_by (Answer_commit h q) (λ a b j s. known (Answer_commit h q) a b j s (j.outcomes.knows h s.1)) es w v i r other;
  learn = λ q. committed_by (Learn q) (λ a b j s. known (Learn q) a b j s (j.outcomes.tells (a.node q) s.0.0)) es w v i r other;
  learn_cut = λ q. committed_by (Learn_cut q) (λ a b j s. known (Learn_cut q) a b j s (j.outcomes.tells (a.node q) s.0.0)) es w v i r other;
  learn_home = λ h. committed_by (Learn_home h) (λ a b j s. known (Learn_home h) a b j s (j.outcomes.knows h s.2)) es w v i r other;
  acknowledge = λ q. committed_by (Acknowledge q) (λ a b j s. known (Acknowledge q) a b j s (j.outcomes.tells (a.node q) s.0.0)) es w v i r other;
  take_told = λ h q. committed_by (Take_told h q) (λ a b j s. known (Take_told h q) a b j s (j.outcomes.answered q s.2)) es w v i r other;
  end = λ h. committed_by (End h) (λ a b j s. known (End h) a b j s (j.outcomes.knows h s.2)) es w v i r other;
  unknown = λ p is. other ((inv_run es w v i r).outcomes.knows p is);
  unlogged = not_logged v (inv_run es w v i r).outcomes.logged other;
}
  where
    not_logged : (v : World) → (v.commit_logged ≡ true → v.cell ≡ Committed) → v.cell ≢ Committed → v.commit_logged ≡ false
    not_logged v logged other = grind (arith, logged, other)

-- where commit is decided, nobody is engaged, and so nothing stands against it
clear_abort_vote : (v : World) (q : ℕ) → Inv v → v.abort_vote q ≡ true → v.cell ≢ Committed
clear_abort_vote v q i against is =
    let at = ((i.whole (λ a. cc (a, is))).tree.at q) in
    let on = at.against_engaged against in
    let off = at.committed is in
    cc (on, off)

clear_gone : (v : World) (q : ℕ) → Inv v → v.gone q ≡ true → v.cell ≢ Committed
clear_gone v q i gone is =
    let at = ((i.whole (λ a. cc (a, is))).tree.at q) in
    let on = at.gone_engaged gone in
    let off = at.committed is in
    cc (on, off)

clear_engaged : (v : World) (q : ℕ) → Inv v → (v.cell ≡ Aborted) ⊎ ((v.engaged q ≡ true) × (v.refused q ≡ true)) → v.cell ≢ Committed
clear_engaged v q i (inl aborted) is = cc (aborted, is)
clear_engaged v q i (inr waits) is =
    let on = waits.0 in
    let off = ((i.whole (λ a. cc (a, is))).tree.at q).committed is in
    cc (on, off)

pub heeded : (o : Origin) (es : List Event) (v : World) → IsOrigin o → Run (first o) es v → IsOpposed es → NeverCommits es v
heeded o es v is r (inl (q, s, has)) =
    never es (first o) v (inv_first o is) r (clear_abort_vote v q (inv_run es (first o) v (inv_first o is) r)
    (found (λ x. x.abort_vote q ≡ true) (λ a b j fs t on. (lasts_run fs a b q j t).against on) (Vote_abort q s) (λ a b j t. rw t.1 (grind (arith, nat_tests))) es (first o) v (inv_first o is) r has))
heeded o es v is r (inr (q, has)) =
    never es (first o) v (inv_first o is) r (clear_gone v q (inv_run es (first o) v (inv_first o is) r)
    (found (λ x. x.gone q ≡ true) (λ a b j fs t on. (lasts_run fs a b q j t).gone on) (Miss q) (λ a b j t. rw t.2 (grind (arith, nat_tests))) es (first o) v (inv_first o is) r has))

pub refused : (o : Origin) (before after : List Event) (q : ℕ) (mid v : World) → IsOrigin o → Run (first o) before mid → mid.engaged q ≡ true → Run mid (Refuse q ∷ after) v
    → NeverCommits (before ++ Refuse q ∷ after) v
refused o before after q mid v is r on next =
    let i : Inv mid = inv_run before (first o) mid (inv_first o is) r in
    let j : Inv next.0 = inv_step (Refuse q) mid next.0 i next.1 in
    let waits : (next.0.engaged q ≡ true) × (next.0.refused q ≡ true) = by_refusal mid next.0 q on next.1 in
    let end : (v.cell ≡ Aborted) ⊎ ((v.engaged q ≡ true) × (v.refused q ≡ true)) = (lasts_run after next.0 v q j next.2).refused waits.0 waits.1 in
    never (before ++ Refuse q ∷ after) (first o) v (inv_first o is) (run_append before (Refuse q ∷ after) (first o) mid v r next) (clear_engaged v q (inv_run after next.0 v j next.2) end)
  where
    by_refusal : (a b : World) (q : ℕ) → a.engaged q ≡ true → Step (Refuse q) a b → (b.engaged q ≡ true) × (b.refused q ≡ true)
    by_refusal a b q on s = grind (arith, nat_tests, on, s)
