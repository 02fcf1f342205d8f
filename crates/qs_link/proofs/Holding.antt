-- What an end holds is what the plan holds back.
use Rattle.std.proofs.Common.{◌≡◌, Bool, ℕ, ◌+◌, ◌<◌, false, refl, sym, ap, ◌∙◌, arith, List, [], ◌∷◌, ◌++◌, length, map}
use Rattle.std.specs.Prelude.{filter, ◌^◌, if◌then◌else◌}
use Rattle.std.proofs.lemmas.Bool.Decides.{nat_tests}
use Rattle.std.proofs.lemmas.List.{append_assoc, length-append, append-nil}
use Rattle.std.proofs.lemmas.List.Elements.{filter-append}
use Rattle.qs_link.specs.declared.outgoing.LinkFault.{LinkFault}
use Rattle.qs_link.specs.declared.outgoing.LinkFault.TheVariants.{Drop, Again, Hold}
use Rattle.qs_link.specs.declared.outgoing.HeldPacket.{HeldPacket}
use Rattle.qs_link.specs.Plan.{HoldsSome, fate, kept, due, early, is_due, is_early, item_of}
use Rattle.qs_link.specs.Planned.{held_of, is_later, still_held}

held_append : {T : Type 0} → (plan : List LinkFault) (k : ℕ) (xs : List T) (x : T) → held_of plan k (xs ++ x ∷ []) ≡ held_of plan k xs ++ kept (fate plan (k + length xs + 1)) x
held_append plan k [] x = let e : k + 0 + 1 ≡ k + 1 = omega arith in rw e (append-nil (kept (fate plan (k + 1)) x))
held_append plan k (y ∷ xs) x =
    ap (λ l. kept (fate plan (k + 1)) y ++ l) (held_append plan (k + 1) xs x)
    ∙ sym (append_assoc (kept (fate plan (k + 1)) y) (held_of plan (k + 1) xs) _)
    ∙ ap (λ n. (kept (fate plan (k + 1)) y ++ held_of plan (k + 1) xs) ++ kept (fate plan n) x) (grind arith)

filter_twice : {T : Type 0} → (p q r : HeldPacket T → Bool) → ((h : HeldPacket T) → (if q h then p h else false) ≡ r h) → (hs : List (HeldPacket T)) → filter p (filter q hs) ≡ filter r hs
filter_twice p q r same [] = refl
filter_twice p q r same (h ∷ hs) = grind (arith, same h, filter_twice p q r same hs)

-- what is due is all that was held back until then
pub due_still : {T : Type 0} → (plan : List LinkFault) (before : List T) → due (length before + 1) (still_held plan before) ≡ due (length before + 1) (held_of plan 0 before)
due_still plan before = ap (map item_of) (filter_twice (is_due (length before + 1)) (is_later (length before)) (is_due (length before + 1)) (λ h. grind (arith, nat_tests)) (held_of plan 0 before))

kept_later : {T : Type 0} → (plan : List LinkFault) (n : ℕ) (x : T) → HoldsSome plan → n < 2 ^ 63 → filter (is_later n) (kept (fate plan n) x) ≡ kept (fate plan n) x
kept_later [] n x some low = refl
kept_later (Drop packet ∷ plan) n x some low = grind (arith, nat_tests, kept_later plan n x some low)
kept_later (Again packet ∷ plan) n x some low = grind (arith, nat_tests, kept_later plan n x some low)
kept_later (Hold packet count ∷ plan) n x some low = grind (arith, nat_tests, kept_later plan n x some.1 low, some.0, low)

pub still_more : {T : Type 0} → (plan : List LinkFault) (before : List T) (x : T) → HoldsSome plan → length before + 1 < 2 ^ 63
    → early (length before + 1) (still_held plan before) ++ kept (fate plan (length before + 1)) x ≡ still_held plan (before ++ x ∷ [])
still_more {T} plan before x some low =
    let n : length (before ++ x ∷ []) ≡ length before + 1 = length-append before (x ∷ []) in
    let z : 0 + length before + 1 ≡ length before + 1 = omega arith in
    let l : held_of plan 0 (before ++ x ∷ []) ≡ held_of plan 0 before ++ kept (fate plan (length before + 1)) x = held_append plan 0 before x ∙ ap (λ k. held_of plan 0 before ++ kept (fate plan k) x) z in
    let o = filter_twice (is_early (length before + 1)) (is_later (length before)) (is_later (length before + 1)) (λ h. grind (arith, nat_tests)) (held_of plan 0 before) in
    ap (λ hs. hs ++ kept (fate plan (length before + 1)) x) o
    ∙ ap (λ hs. filter (is_later (length before + 1)) (held_of plan 0 before) ++ hs) (sym (kept_later plan (length before + 1) x some low))
    ∙ sym (filter-append (is_later (length before + 1)) (held_of plan 0 before) (kept (fate plan (length before + 1)) x))
    ∙ ap (filter (is_later (length before + 1))) (sym l)
    ∙ ap (λ k. filter (is_later k) (held_of plan 0 (before ++ x ∷ []))) (sym n)
