-- What each transaction holds, once one of them holds another share.
use Rattle.std.proofs.Common.{◌≡◌, List, [], ◌∷◌, Option, Some, None, refl, sym, ap, ◌∙◌, arith}
use Rattle.std.specs.Prelude.{Bool, true, false, cond, unwrap_or, if◌then◌else◌}
use Rattle.std.specs.declared.cmp.Ordering.TheVariants.{Less, Equal, Greater}
use Rattle.std.specs.Ordering.{match_ordering, is_eq}
use Rattle.std.specs.Map.{lookup, remove_entry}
use Rattle.std.specs.BTreeMap.{insert_entry, is_at}
use Rattle.std.proofs.lemmas.Bool.Decides.{nat_tests}
use Rattle.qs_base.specs.Order.{tid_cmp, same_tid}
use Rattle.qs_base.specs.declared.identifiers.Tid.{Tid}
use Rattle.qs_base.proofs.Same.{same_tid-true, same_tid-self}
use Rattle.qs_base.proofs.TidOrder.{same_tid-cmp, tid_exact}
use Rattle.qs_ops.specs.Table.{nothing_held}
use Rattle.qs_ops.specs.declared.share.Share.{Share}
use Rattle.qs_ops_shares.specs.Shares.{share_in, IsHeld}

pub same_tid-sym : (s t : Tid) → same_tid s t ≡ same_tid t s
same_tid-sym s t = grind (arith, nat_tests)

either_way : {X : Type 0} (a b : Bool) (x y z : X) → (a ≡ true → b ≡ true → ⊥) → cond a x (cond b y z) ≡ cond b y (cond a x z)
either_way true true x y z apart = absurd (apart refl refl)
either_way true false x y z apart = refl
either_way false true x y z apart = refl
either_way false false x y z apart = refl

covered : {X : Type 0} (a : Bool) (x y z : X) → cond a x z ≡ cond a x (cond a y z)
covered true x y z = refl
covered false x y z = refl

apart_from_greater : (t k e : Tid) → tid_cmp k e ≡ Greater → is_eq (tid_cmp t e) ≡ true → is_eq (tid_cmp t k) ≡ true → ⊥
apart_from_greater t k e gt a b =
    let te = same_tid-true t e (same_tid-cmp t e ∙ a) in
    let tk = same_tid-true t k (same_tid-cmp t k ∙ b) in
    let same : same_tid k e ≡ true = ap (λ (s : Tid). same_tid s e) (sym tk ∙ te) ∙ same_tid-self e in
    let is : is_eq (tid_cmp k e) ≡ true = sym (same_tid-cmp k e) ∙ same in
    let not_so : is_eq (tid_cmp k e) ≡ false = ap is_eq gt in
    absurd (cc)

lookup-insert : (es : List (Tid × Share)) (k : Tid) (share : Share) (t : Tid) → lookup (is_at (tid_cmp t)) (insert_entry tid_cmp es k share) ≡ cond (is_eq (tid_cmp t k)) (Some share) (lookup (is_at (tid_cmp t)) es)
lookup-insert [] k share t = refl
lookup-insert (e ∷ es) k share t =
    (elim (tid_cmp k e.0) as (λ o. tid_cmp k e.0 ≡ o → lookup (is_at (tid_cmp t)) (match_ordering o ((k, share) ∷ e ∷ es) ((e.0, share) ∷ es) (e ∷ insert_entry tid_cmp es k share)) ≡ cond (is_eq (tid_cmp t k)) (Some share) (lookup (is_at (tid_cmp t)) (e ∷ es))) [
      | Less ↦ λ is. refl
      | Equal ↦ λ is. covered (is_eq (tid_cmp t e.0)) (Some share) (Some e.1) (lookup (is_at (tid_cmp t)) es)
          ∙ ap (λ (s : Tid). cond (is_eq (tid_cmp t s)) (Some share) (lookup (is_at (tid_cmp t)) (e ∷ es))) (sym (tid_exact k e.0 is))
      | Greater ↦ λ is. ap (λ (o : Option Share). cond (is_eq (tid_cmp t e.0)) (Some e.1) o) (lookup-insert es k share t)
          ∙ either_way (is_eq (tid_cmp t e.0)) (is_eq (tid_cmp t k)) (Some e.1) (Some share) (lookup (is_at (tid_cmp t)) es) (apart_from_greater t k e.0 is)
    ]) refl

unwrapped : (b : Bool) (share : Share) (o : Option Share) → unwrap_or (cond b (Some share) o) nothing_held ≡ (if b then share else unwrap_or o nothing_held)
unwrapped true share o = refl
unwrapped false share o = refl

pub held-insert : (es : List (Tid × Share)) (tid : Tid) (share : Share) → IsHeld tid share es (insert_entry tid_cmp es tid share)
held-insert es tid share t =
    ap (λ (o : Option Share). unwrap_or o nothing_held) (lookup-insert es tid share t)
    ∙ unwrapped (is_eq (tid_cmp t tid)) share (lookup (is_at (tid_cmp t)) es)
    ∙ ap (λ (b : Bool). if b then share else share_in es t) (sym (same_tid-cmp t tid) ∙ same_tid-sym t tid)

without : (b : Bool) (o : Option Share) → unwrap_or (cond b None o) nothing_held ≡ (if b then nothing_held else unwrap_or o nothing_held)
without true o = refl
without false o = refl

pub held-remove : (es fs : List (Tid × Share)) (tid : Tid) → ((t : Tid) → lookup (is_at (tid_cmp t)) fs ≡ cond (is_at (tid_cmp tid) t) None (lookup (is_at (tid_cmp t)) es)) → IsHeld tid nothing_held es fs
held-remove es fs tid updates t =
    ap (λ (o : Option Share). unwrap_or o nothing_held) (updates t)
    ∙ without (is_eq (tid_cmp tid t)) (lookup (is_at (tid_cmp t)) es)
    ∙ ap (λ (b : Bool). if b then nothing_held else share_in es t) (sym (same_tid-cmp tid t))
