-- What a node that opens over its log has taken up of a transaction.
use Rattle.qs_world_refine.proofs.Words.{◌≡◌, ℕ, ◌==◌, ◌||◌, Bool, true, false, List, [], ◌∷◌, Some, None, refl, sym, ap, subst, ◌∙◌, list_all, list_any, NodeNo, Tid, same_node, no_nodes, Untold, Recovery, is_untold_of, committed_before, Manager, Participant, is_list_of, same_Some}
use Rattle.qs_base.specs.declared.identifiers.Outcome.TheVariants as outcomes
use Rattle.qs_tm.specs.Manager as tm
use Rattle.qs_world_refine.proofs.SoundKnown.{same_is}
use Rattle.qs_world_refine.proofs.SoundParts.{and_both}
use Rattle.qs_world_refine.proofs.TakingUp.{Known}

-- nobody has acknowledged, and a commit is one of its log, still to be told

pub record IsTakenOf (t : Tid) (said : Recovery) (part : Participant) : Type 0 where
  pub committed : part.outcome ≡ Some outcomes.Commit → list_any (is_untold_of t) said.untold ≡ true
  pub nobody : part.acknowledged ≡ no_nodes

pub taken_of : (t : Tid) (home : Bool) (said : Recovery) (m : Manager) (a b : Bool) → list_any (is_untold_of t) said.untold ≡ a → Known t home a b m → (part : Participant) → tm.part_of t m ≡ Some part → IsTakenOf t said part
taken_of t home said m true b untold found part known = record {
  committed = λ _. untold;
  nobody = ap (λ (p : Participant). p.acknowledged) (same_Some part (committed_before home found.0) (sym known ∙ found.1));
}
taken_of t home said m false true untold found part known = record {
  committed = λ decided. absurd (by home refl decided);
  nobody = ap (λ (p : Participant). p.acknowledged) its ∙ found.2.bare.acknowledged;
}
  where
    its : part ≡ found.0
    its = same_Some part found.0 (sym known ∙ found.1)

    by : (h : Bool) → home ≡ h → part.outcome ≡ Some outcomes.Commit → ⊥
    by true at decided = let both : Some outcomes.Abort ≡ Some outcomes.Commit = sym (found.2.aborted at) ∙ (sym (ap (λ (p : Participant). p.outcome) its) ∙ decided) in cc (both)
    by false off decided = let both : None ≡ Some outcomes.Commit = sym (found.2.bare.unknown off) ∙ (sym (ap (λ (p : Participant). p.outcome) its) ∙ decided) in cc (both)
taken_of t home said m false false untold none part known = absurd (let both : None ≡ Some part = sym none ∙ known in cc (both))

-- a Commit that is still to be told is of the home
module _ (tid : Tid) (n : ℕ) (me : NodeNo) (home_is : same_node tid.home me ≡ (tid.home.0 == n)) where
  pub list_home : (commits : List Untold) → list_all (is_list_of me) commits ≡ true → list_any (is_untold_of tid) commits ≡ true → (tid.home.0 == n) ≡ true
  list_home [] all some = absurd (cc (some))
  list_home (c ∷ commits) all some = by (is_untold_of tid c) refl some (list_home commits both.1)
    where
      both : (same_node c.tid.home me ≡ true) × (list_all (is_list_of me) commits ≡ true)
      both = and_both (same_node c.tid.home me) (list_all (is_list_of me) commits) all

      by : (b : Bool) → is_untold_of tid c ≡ b → (b || list_any (is_untold_of tid) commits) ≡ true → (list_any (is_untold_of tid) commits ≡ true → (tid.home.0 == n) ≡ true) → (tid.home.0 == n) ≡ true
      by true its so more = sym home_is ∙ subst (λ (u : Tid). same_node u.home me ≡ true) (same_is c.tid tid its) both.0
      by false its so more = more so
