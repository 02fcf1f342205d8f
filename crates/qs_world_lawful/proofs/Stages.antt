-- A fold of a rule goes on where the rule does, at each stage with what it is given there; and a rule for what is undecided.
use Rattle.qs_world_lawful.proofs.Words.{◌≡◌, ℕ, Bool, true, false, List, [], ◌∷◌, Option, Some, None, refl, fold, if◌then◌else◌, Tid, BookValue, is_undecided, Participant, where_undecided, Work, HoldsWork, AtEach, none_is}
use Rattle.qs_tm.specs.Manager as tm

module _ (stamp : ℕ) (before : BookValue) where
  pub by_fold : {A : Type 0} (P : Work → A → Type 0) (f : Work → A → Work) → ((work : Work) (x : A) → HoldsWork stamp before work → P work x → HoldsWork stamp before (f work x))
      → (xs : List A) (work : Work) → HoldsWork stamp before work → AtEach P f work xs → HoldsWork stamp before (fold f work xs)
  by_fold P f each [] work h given = h
  by_fold P f each (x ∷ xs) work h given = by_fold P f each xs (f work x) (each work x h given.0) given.1

  pub by_undecided : (work : Work) → HoldsWork stamp before work → (tid : Tid) (rule : Participant → Work → Work)
      → ((part : Participant) → tm.part_of tid work.node.manager ≡ Some part → part.outcome ≡ None → HoldsWork stamp before (rule part work)) → HoldsWork stamp before (where_undecided tid rule work)
  by_undecided work h tid rule each = by (tm.part_of tid work.node.manager) refl
    where
      inner : (part : Participant) → tm.part_of tid work.node.manager ≡ Some part → (b : Bool) → is_undecided part ≡ b → HoldsWork stamp before (if b then rule part work else work)
      inner part known true is = each part known (none_is part.outcome is)
      inner part known false is = h

      by : (o : Option Participant) → tm.part_of tid work.node.manager ≡ o → HoldsWork stamp before (elim o [ None ↦ work | Some part ↦ if is_undecided part then rule part work else work ])
      by None unknown = h
      by (Some part) known = inner part known (is_undecided part) refl
