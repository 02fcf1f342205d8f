-- What one entry's change does to the texts under all names.
use Rattle.std.proofs.Common.{◌≡◌, ℕ, zero, suc, ◌+◌, ◌<◌, List, [], ◌∷◌, take, get_or, length, Option, None, refl, sym, ap, ◌∙◌, arith}
use Rattle.std.specs.List.{list_any}
use Rattle.std.specs.Prelude.{Bool, true, false, cond, ◌&&◌, ◌||◌, if◌then◌else◌}
use Rattle.std.specs.declared.cmp.Ordering.TheVariants.{Less, Equal, Greater}
use Rattle.std.specs.Ordering.{is_eq}
use Rattle.std.specs.BTreeMap.{is_at}
use Rattle.std.specs.Cmp.Lexicographic.{texts_ties}
use Rattle.std.proofs.lemmas.Map.Lookups.{exact_bytes}
use Rattle.qs_base.specs.Order.{bytes_cmp, same_bytes, same_tid}
use Rattle.qs_base.specs.declared.identifiers.Tid.{Tid}
use Rattle.qs_base.proofs.Same.{same_tid-self}
use Rattle.qs_ops_shelf.specs.Slots.{Entries, slot_in, text_of, pending_of, text_in, pending_in, SamePending, SameTexts, IsStaged, IsSettled}
use Rattle.qs_ops_shelf.specs.Texts.{shadowed}
use Rattle.qs_ops_shelf.specs.declared.slot.ShelfText.{ShelfText}

-- the entry at one name is w from now on
abbrev pub IsPut : List ℕ → Option ShelfText → Entries → Entries → Type 0
IsPut name w old new = (q : List ℕ) → slot_in new q ≡ cond (is_at (bytes_cmp name) q) w (slot_in old q)

pub staged_from_put : (old new : Entries) (name : List ℕ) (tid : Tid) (text : Option (List ℕ)) (w : Option ShelfText) → IsPut name w old new
    → ((t : Tid) → pending_of w t ≡ (if same_tid tid t then text else pending_in old name t))
    → IsStaged (same_bytes name) tid text old new
staged_from_put old new name tid text w entry is q t =
    rw (texts_ties name q, ap (λ (s : Option ShelfText). pending_of s t) (entry q))
    ((elim (bytes_cmp name q) as (λ o. bytes_cmp name q ≡ o → pending_of (cond (is_eq o) w (slot_in old q)) t ≡ (if is_eq o && same_tid tid t then text else pending_in old q t)) [
      | Less ↦ λ at. refl
      | Equal ↦ λ at. is t ∙ ap (λ (n : List ℕ). if same_tid tid t then text else pending_in old n t) (exact_bytes name q at)
      | Greater ↦ λ at. refl
    ]) refl)

pub settled_from_put : (old new : Entries) (name : List ℕ) (tid : Tid) (commits : Bool) (w : Option ShelfText) → IsPut name w old new
    → text_of w ≡ (if commits then shadowed (pending_in old name tid) (text_in old name) else text_in old name)
    → IsSettled (λ q. commits && same_bytes name q) tid old new
settled_from_put old new name tid commits w entry is q =
    rw (texts_ties name q, ap text_of (entry q))
    ((elim (bytes_cmp name q) as (λ o. bytes_cmp name q ≡ o → text_of (cond (is_eq o) w (slot_in old q)) ≡ (if commits && is_eq o then shadowed (pending_in old q tid) (text_in old q) else text_in old q)) [
      | Less ↦ λ at. elsewhere commits
      | Equal ↦ λ at. is ∙ here commits ∙ ap (λ (n : List ℕ). if commits && true then shadowed (pending_in old n tid) (text_in old n) else text_in old n) (exact_bytes name q at)
      | Greater ↦ λ at. elsewhere commits
    ]) refl)
  where
    elsewhere : (b : Bool) → text_in old q ≡ (if b && false then shadowed (pending_in old q tid) (text_in old q) else text_in old q)
    elsewhere true = refl
    elsewhere false = refl

    here : (b : Bool) → (if b then shadowed (pending_in old name tid) (text_in old name) else text_in old name) ≡ (if b && true then shadowed (pending_in old name tid) (text_in old name) else text_in old name)
    here true = refl
    here false = refl

pub same_from_put : (old new : Entries) (name : List ℕ) (w : Option ShelfText) → IsPut name w old new → text_of w ≡ text_in old name → SameTexts old new
same_from_put old new name w entry is q =
    rw (ap text_of (entry q))
    ((elim (bytes_cmp name q) as (λ o. bytes_cmp name q ≡ o → text_of (cond (is_eq o) w (slot_in old q)) ≡ text_in old q) [
      | Less ↦ λ at. refl
      | Equal ↦ λ at. is ∙ ap (λ (n : List ℕ). text_in old n) (exact_bytes name q at)
      | Greater ↦ λ at. refl
    ]) refl)

pub same_pending_from_put : (old new : Entries) (name : List ℕ) (w : Option ShelfText) → IsPut name w old new → ((t : Tid) → pending_of w t ≡ pending_in old name t) → SamePending old new
same_pending_from_put old new name w entry is q t =
    rw (ap (λ (s : Option ShelfText). pending_of s t) (entry q))
    ((elim (bytes_cmp name q) as (λ o. bytes_cmp name q ≡ o → pending_of (cond (is_eq o) w (slot_in old q)) t ≡ pending_in old q t) [
      | Less ↦ λ at. refl
      | Equal ↦ λ at. is t ∙ ap (λ (n : List ℕ). pending_in old n t) (exact_bytes name q at)
      | Greater ↦ λ at. refl
    ]) refl)

-- an entry under which nothing stands is taken out
pub staged_then_out : (old mid new : Entries) (name : List ℕ) (tid : Tid) → IsStaged (same_bytes name) tid None old mid → SamePending mid new → IsStaged (same_bytes name) tid None old new
staged_then_out old mid new name tid first second q t = second q t ∙ first q t

pub settled_then_out : (old mid new : Entries) (test : List ℕ → Bool) (tid : Tid) → IsSettled test tid old mid → SameTexts mid new → IsSettled test tid old new
settled_then_out old mid new test tid first second q = second q ∙ first q

-- ---- several names, one after another

pub staged_more : (old mid new : Entries) (first second both : List ℕ → Bool) (tid : Tid) → IsStaged first tid None old mid → IsStaged second tid None mid new
    → ((q : List ℕ) → both q ≡ (first q || second q)) → IsStaged both tid None old new
staged_more old mid new first second both tid f s b q t =
    s q t ∙ ap (λ (o : Option (List ℕ)). if second q && same_tid tid t then None else o) (f q t) ∙ cases (first q) (second q) (same_tid tid t)
    ∙ ap (λ (c : Bool). if c && same_tid tid t then None else pending_in old q t) (sym (b q))
  where
    cases : (x y z : Bool) → (if y && z then None else (if x && z then None else pending_in old q t)) ≡ (if (x || y) && z then None else pending_in old q t)
    cases true true true = refl
    cases true true false = refl
    cases true false true = refl
    cases true false false = refl
    cases false true true = refl
    cases false true false = refl
    cases false false true = refl
    cases false false false = refl

pub settled_more : (old mid new : Entries) (first second both : List ℕ → Bool) (tid : Tid) (commits : Bool)
    → IsStaged first tid None old mid → IsSettled (λ q. commits && first q) tid old mid → IsSettled (λ q. commits && second q) tid mid new
    → ((q : List ℕ) → both q ≡ (first q || second q)) → IsSettled (λ q. commits && both q) tid old new
settled_more old mid new first second both tid commits p f s b q =
    s q
    ∙ ap (λ (o : Option (List ℕ)). if commits && second q then shadowed o (text_in mid q) else text_in mid q) (p q tid ∙ ap (λ (c : Bool). if first q && c then None else pending_in old q tid) (same_tid-self tid))
    ∙ ap (λ (o : Option (List ℕ)). if commits && second q then shadowed (if first q && true then None else pending_in old q tid) o else o) (f q)
    ∙ cases commits (first q) (second q)
    ∙ ap (λ (c : Bool). if commits && c then shadowed (pending_in old q tid) (text_in old q) else text_in old q) (sym (b q))
  where
    cases : (c x y : Bool)
        → (if c && y then shadowed (if x && true then None else pending_in old q tid) (if c && x then shadowed (pending_in old q tid) (text_in old q) else text_in old q) else (if c && x then shadowed (pending_in old q tid) (text_in old q) else text_in old q))
        ≡ (if c && (x || y) then shadowed (pending_in old q tid) (text_in old q) else text_in old q)
    cases true true true = refl
    cases true true false = refl
    cases true false true = refl
    cases true false false = refl
    cases false true true = refl
    cases false true false = refl
    cases false false true = refl
    cases false false false = refl

or-false : (b : Bool) → b || false ≡ b
or-false true = refl
or-false false = refl

pub list_any-take_more : {X : Type 0} (test : X → Bool) (xs : List X) (i : ℕ) (x : X) → i < length xs → x ≡ get_or xs i x → list_any test (take (i + 1) xs) ≡ (list_any test (take i xs) || test x)
list_any-take_more test [] i x lt is = absurd (omega arith)
list_any-take_more test (y ∷ xs) zero x lt is = or-false (test y) ∙ ap test (sym is)
list_any-take_more test (y ∷ xs) (suc i) x lt is =
    let e : suc i + 1 ≡ suc (i + 1) = omega arith in
    rw e
    (elim (test y) as (λ b. b || list_any test (take (i + 1) xs) ≡ ((b || list_any test (take i xs)) || test x)) [
      | true ↦ refl
      | false ↦ list_any-take_more test xs i x (omega arith) is
    ])
