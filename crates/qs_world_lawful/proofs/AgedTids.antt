-- The transactions of a manager for which a test holds are known, and each is listed once.
use Rattle.qs_world_lawful.proofs.Words.{◌≡◌, Bool, true, false, List, [], ◌∷◌, ◌++◌, Some, refl, ap, sym, subst, ◌∙◌, fold, append_assoc, if◌then◌else◌, append-nil, ⊤, cond, lookup, is_at, Ordering, Equal, Less, tid_cmp, Tid, at_exact, tid_itself, IsBelow, IsRising, Participant, Every}
use Rattle.std.specs.Ordering.{is_eq}
use Rattle.qs_tm.specs.Manager.{is_one, put_tid}
use Rattle.qs_tm.specs.declared.manager.Which.{Which}
use Rattle.qs_world_lawful.proofs.Apart.{Apart, apart}

-- each is apart from those behind it
abbrev pub AllApart : List Tid → Type 0
AllApart [] = ⊤
AllApart (t ∷ ts) = Every (Apart t) ts × AllApart ts

pub every_all : (P Q : Tid → Type 0) → ((t : Tid) → P t → Q t) → (ts : List Tid) → Every P ts → Every Q ts
every_all P Q each [] all = tt
every_all P Q each (t ∷ ts) all = (each t all.0, every_all P Q each ts all.1)

module _ (which : Which) where
  abbrev pub chosen : List (Tid × Participant) → List Tid
  chosen [] = []
  chosen (e ∷ es) = if is_one which e.0 e.1 then e.0 ∷ chosen es else chosen es

  pub chosen_are : (es : List (Tid × Participant)) (acc : List Tid) → fold (put_tid which) acc es ≡ acc ++ chosen es
  chosen_are [] acc = sym (append-nil acc)
  chosen_are (e ∷ es) acc = by (is_one which e.0 e.1) (λ (more : List Tid). chosen_are es more)
    where
      by : (b : Bool) → ((more : List Tid) → fold (put_tid which) more es ≡ more ++ chosen es) → fold (put_tid which) (if b then acc ++ e.0 ∷ [] else acc) es ≡ acc ++ (if b then e.0 ∷ chosen es else chosen es)
      by true rest = rest (acc ++ e.0 ∷ []) ∙ append_assoc acc (e.0 ∷ []) (chosen es)
      by false rest = rest acc

  abbrev pub IsIn : List (Tid × Participant) → Tid → Type 0
  IsIn es t = (part : Participant) × (lookup (is_at (tid_cmp t)) es ≡ Some part) × (is_one which t part ≡ true)

  -- what is found is above what all are above
  above : (k t : Tid) (part : Participant) (es : List (Tid × Participant)) → IsBelow tid_cmp k es → lookup (is_at (tid_cmp t)) es ≡ Some part → tid_cmp k t ≡ Less
  above k t part [] below is = absurd (cc is)
  above k t part (e ∷ es) below is = by (is_at (tid_cmp t) e.0) refl is (above k t part es below.1)
    where
      by : (b : Bool) → is_at (tid_cmp t) e.0 ≡ b → cond b (Some e.1) (lookup (is_at (tid_cmp t)) es) ≡ Some part → (lookup (is_at (tid_cmp t)) es ≡ Some part → tid_cmp k t ≡ Less) → tid_cmp k t ≡ Less
      by true at h rest = subst (λ (u : Tid). tid_cmp k u ≡ Less) (sym (at_exact t e.0 at)) below.0
      by false at h rest = rest h

  far : (k t : Tid) → tid_cmp k t ≡ Less → Apart k t
  far k t less = apart k t (λ e. clash (sym (subst (λ (u : Tid). tid_cmp k u ≡ Less) (sym e) less) ∙ tid_itself k))
    where
      clash : Less ≡ Equal → ⊥
      clash e = cc e

  module _ (e : Tid × Participant) (es : List (Tid × Participant)) (below : IsBelow tid_cmp e.0 es) where
    lift : (t : Tid) → IsIn es t → IsIn (e ∷ es) t
    lift t is = (is.0, ap (λ (b : Bool). cond b (Some e.1) (lookup (is_at (tid_cmp t)) es)) (far e.0 t (above e.0 t is.0 es below is.1)).at ∙ is.1, is.2)

    first : is_one which e.0 e.1 ≡ true → IsIn (e ∷ es) e.0
    first is = (e.1, ap (λ (r : Ordering). cond (is_eq r) (Some e.1) (lookup (is_at (tid_cmp e.0)) es)) (tid_itself e.0), is)

  pub all_in : (es : List (Tid × Participant)) → IsRising tid_cmp es → Every (IsIn es) (chosen es) × AllApart (chosen es)
  all_in [] rising = (tt, tt)
  all_in (e ∷ es) rising = by (is_one which e.0 e.1) refl (all_in es rising.1)
    where
      lifted : Every (IsIn es) (chosen es) → Every (IsIn (e ∷ es)) (chosen es)
      lifted all = every_all (IsIn es) (IsIn (e ∷ es)) (lift e es rising.0) (chosen es) all

      aparts : Every (IsIn es) (chosen es) → Every (Apart e.0) (chosen es)
      aparts all = every_all (IsIn es) (Apart e.0) (λ t is. far e.0 t (above e.0 t is.0 es rising.0 is.1)) (chosen es) all

      by : (b : Bool) → is_one which e.0 e.1 ≡ b → Every (IsIn es) (chosen es) × AllApart (chosen es) → Every (IsIn (e ∷ es)) (if b then e.0 ∷ chosen es else chosen es) × AllApart (if b then e.0 ∷ chosen es else chosen es)
      by true is rest = ((first e es rising.0 is, lifted rest.0), (aparts rest.0, rest.1))
      by false is rest = (lifted rest.0, rest.1)
