-- Tests, look-ups and loops of a rule: what holds before it holds after it, where each branch shows it.
use Rattle.qs_world_walk.proofs.Words.{Bool, List, None, Option, Participant, Some, Tid, Work, [], false, fold, if◌then◌else◌, is_undecided, part_of, refl, true, ◌∷◌, ◌≡◌}
use Rattle.qs_node_step.specs.Asking.{where_undecided}
use Rattle.qs_world_walk.specs.May.{IsOpen}

module _ (P : Work → Type 0) where
  abbrev pub Keeps : Work → Work → Type 0
  Keeps work new = P work → P new

  pub if_keeps : (b : Bool) (x y work : Work) → (b ≡ true → Keeps work x) → (b ≡ false → Keeps work y) → Keeps work (if b then x else y)
  if_keeps true x y work p q = p refl
  if_keeps false x y work p q = q refl

  pub elim_keeps : {A : Type 0} (o : Option A) (n : Work) (f : A → Work) (work : Work) → (o ≡ None → Keeps work n) → ((x : A) → o ≡ Some x → Keeps work (f x)) → Keeps work (elim o [ None ↦ n | Some x ↦ f x ])
  elim_keeps None n f work p q = p refl
  elim_keeps (Some x) n f work p q = q x refl

  pub fold_keeps : {A : Type 0} (f : Work → A → Work) → ((w : Work) (x : A) → Keeps w (f w x)) → (xs : List A) (work : Work) → Keeps work (fold f work xs)
  fold_keeps f each [] work h = h
  fold_keeps f each (x ∷ xs) work h = fold_keeps f each xs (f work x) (each work x h)

  pub open_keeps : (tid : Tid) (rule : Participant → Work → Work) (work : Work) → ((part : Participant) → IsOpen tid part work → Keeps work (rule part work)) → Keeps work (where_undecided tid rule work)
  open_keeps tid rule work each = elim_keeps (part_of tid work) work (λ part. if is_undecided part then rule part work else work) work (λ none h. h)
      (λ part known. if_keeps (is_undecided part) (rule part work) work work (λ is. each part (record { known = known; undecided = is })) (λ is h. h))
