-- What a restart keeps as committed was kept so when it was saved, or is in the log: the log decides the rest.
use Rattle.qs_world_refine.proofs.Words.{◌≡◌, ◌⊎◌, inl, inr, Bool, true, false, List, [], ◌∷◌, ◌++◌, fold, Option, Some, None, refl, subst, sym, if◌then◌else◌, list_any, find, same_tid, NodeNo, Tid, is_outcome_of, Decided, is_kept_commit}
use Rattle.qs_node_kept.specs.declared.kept.KeptLabel.{KeptLabel}
use Rattle.qs_node_step.specs.Opening.{outcome_in_log, is_left_open, close_tid, close_outcome}
use Rattle.qs_world_refine.proofs.SoundKnown.{same_is}
use Rattle.qs_world_refine.proofs.TurnOutcomes.{found_last}

module _ (t : Tid) (node : NodeNo) (committed : List Tid) where
  abbrev HasCommit : List Decided → Type 0
  HasCommit outcomes = is_kept_commit (find (is_outcome_of t) outcomes) ≡ true

  -- a commit that the log decides is in it
  of_log : (u : Tid) → is_outcome_of t (outcome_in_log committed u) ≡ true → is_kept_commit (Some (outcome_in_log committed u)) ≡ true → list_any (same_tid t) committed ≡ true
  of_log u = by (list_any (same_tid u) committed) refl
    where
      decided : Bool → Decided
      decided b = if b then record { tid = u; outcome = Rattle.qs_base.specs.declared.identifiers.Outcome.TheVariants.Commit; cause = None }
          else record { tid = u; outcome = Rattle.qs_base.specs.declared.identifiers.Outcome.TheVariants.Abort; cause = Some (Rattle.qs_ops.specs.declared.answer.Cause.TheVariants.Home u.inc) }

      by : (b : Bool) → list_any (same_tid u) committed ≡ b → is_outcome_of t (decided b) ≡ true → is_kept_commit (Some (decided b)) ≡ true → list_any (same_tid t) committed ≡ true
      by true has same is = subst (λ (k : Tid). list_any (same_tid k) committed ≡ true) (sym (same_is t u same)) has
      by false none same is = absurd (cc (is))

  close_one : (outcomes : List Decided) (begun : KeptLabel) → HasCommit (close_outcome node committed outcomes begun) → HasCommit outcomes ⊎ (list_any (same_tid t) committed ≡ true)
  close_one outcomes begun = at begun.tid
    where
      at : (o : Option Tid) → HasCommit (close_tid node committed outcomes o) → HasCommit outcomes ⊎ (list_any (same_tid t) committed ≡ true)
      at None = λ is. inl is
      at (Some u) = by (is_left_open node outcomes u)
        where
          last : HasCommit outcomes ⊎ ((is_outcome_of t (outcome_in_log committed u) ≡ true) × (is_kept_commit (Some (outcome_in_log committed u)) ≡ true)) → HasCommit outcomes ⊎ (list_any (same_tid t) committed ≡ true)
          last (inl old) = inl old
          last (inr new) = inr (of_log u new.0 new.1)

          by : (b : Bool) → HasCommit (if b then outcomes ++ outcome_in_log committed u ∷ [] else outcomes) → HasCommit outcomes ⊎ (list_any (same_tid t) committed ≡ true)
          by true is = last (found_last (is_outcome_of t) (outcome_in_log committed u) outcomes is)
          by false is = inl is

  pub closed_commit : (labels : List KeptLabel) (outcomes : List Decided) → HasCommit (fold (close_outcome node committed) outcomes labels) → HasCommit outcomes ⊎ (list_any (same_tid t) committed ≡ true)
  closed_commit [] outcomes is = inl is
  closed_commit (begun ∷ labels) outcomes is = by (closed_commit labels (close_outcome node committed outcomes begun) is)
    where
      by : HasCommit (close_outcome node committed outcomes begun) ⊎ (list_any (same_tid t) committed ≡ true) → HasCommit outcomes ⊎ (list_any (same_tid t) committed ≡ true)
      by (inl closed) = close_one outcomes begun closed
      by (inr logged) = inr logged
