-- What is held back, one after another.
use Rattle.std.proofs.Common.{◌≡◌, ℕ, ◌+◌, ◌<◌, refl, sym, ap, ◌∙◌, arith, List, [], ◌∷◌, ◌++◌, length, drop, take, map, zero, suc}
use Rattle.std.specs.Prelude.{filter}
use Rattle.std.proofs.lemmas.List.{append_assoc, map-append}
use Rattle.std.proofs.lemmas.List.Elements.{filter-append}
use Rattle.qs_link.specs.declared.outgoing.HeldPacket.{HeldPacket}
use Rattle.qs_link.specs.Plan.{due, early, is_due, is_early, item_of}

first_of : {A : Type 0} → (t : ℕ) (xs ys : List A) → t < length xs → (take 1 (drop t xs ++ ys) ≡ take 1 (drop t xs)) × (drop 1 (drop t xs ++ ys) ≡ drop (t + 1) xs ++ ys) × (take (t + 1) xs ≡ take t xs ++ take 1 (drop t xs))
first_of t [] ys lt = absurd (omega (arith, lt))
first_of zero (x ∷ xs) ys lt = (refl, refl, refl)
first_of (suc t) (x ∷ xs) ys lt =
    let i = first_of t xs ys (grind (arith, lt)) in
    let e : suc t + 1 ≡ suc (t + 1) = omega arith in
    (i.0, rw e i.1, rw e (ap (λ l. x ∷ l) i.2))

-- the next one is dropped or stays
pub drop_more : {T : Type 0} → (n t : ℕ) (xs hs ks : List (HeldPacket T)) → t < length xs → hs ≡ drop t xs ++ early n (take t xs) → ks ≡ drop 1 hs ++ early n (take 1 hs) → ks ≡ drop (t + 1) xs ++ early n (take (t + 1) xs)
drop_more {T} n t xs hs ks lt held is =
    let s = first_of t xs (early n (take t xs)) lt in
    let one : take 1 hs ≡ take 1 (drop t xs) = ap (take 1) held ∙ s.0 in
    let stay : early n (take t xs) ++ early n (take 1 hs) ≡ early n (take (t + 1) xs) = ap (λ l. early n (take t xs) ++ early n l) one ∙ sym (filter-append (is_early n) (take t xs) (take 1 (drop t xs))) ∙ ap (early n) (sym s.2) in
    is ∙ ap (λ l. l ++ early n (take 1 hs)) (ap (drop 1) held ∙ s.1) ∙ append_assoc (drop (t + 1) xs) (early n (take t xs)) (early n (take 1 hs)) ∙ ap (λ l. drop (t + 1) xs ++ l) stay

due_append : {T : Type 0} → (n : ℕ) (xs ys : List (HeldPacket T)) → due n (xs ++ ys) ≡ due n xs ++ due n ys
due_append n xs ys = ap (map item_of) (filter-append (is_due n) xs ys) ∙ map-append item_of (filter (is_due n) xs) (filter (is_due n) ys)

-- what is due of the next one goes too
pub due_more : {T : Type 0} → (n : ℕ) (h : HeldPacket T) (hs : List (HeldPacket T)) (gs ws : List T) → ws ≡ gs ++ due n (h ∷ []) → ws ++ due n hs ≡ gs ++ due n (h ∷ hs)
due_more n h hs gs ws more = ap (λ l. l ++ due n hs) more ∙ append_assoc gs (due n (h ∷ [])) (due n hs) ∙ ap (λ l. gs ++ l) (sym (due_append n (h ∷ []) hs))
