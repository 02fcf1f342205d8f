-- Nothing goes out of a link that was not put to it.
use Rattle.std.proofs.Common.{ℕ, ◌+◌, Bool, true, false, List, [], ◌∷◌, ◌++◌, length}
use Rattle.std.specs.Prelude.{cond, map}
use Rattle.std.specs.List.{filter}
use Rattle.qs_link.specs.OnlyPut.{Each}
use Rattle.qs_link.specs.Plan.{due, fate, is_due, item_of, kept, own}
use Rattle.qs_link.specs.Planned.{goes_out, held_of}
use Rattle.qs_link.specs.declared.outgoing.HeldPacket.{HeldPacket}
use Rattle.qs_link.specs.declared.outgoing.LinkFault.{LinkFault}
use Rattle.qs_link.specs.declared.outgoing.Way.{Way}
use Rattle.qs_link.specs.declared.outgoing.Way.TheVariants as ways

both : {T : Type 0} (P : T → Type 0) (xs ys : List T) → Each P xs → Each P ys → Each P (xs ++ ys)
both P [] ys a b = b
both P (x ∷ xs) ys a b = (a.0, both P xs ys a.1 b)

own_each : {T : Type 0} (P : T → Type 0) (w : Way) (x : T) → P x → Each P (own w x)
own_each P ways.Passes x h = (h, tt)
own_each P ways.Lost x h = tt
own_each P ways.Twice x h = (h, (h, tt))
own_each P (ways.Kept until) x h = tt

-- what is held, seen as its items
abbrev Holds : {T : Type 0} → (T → Type 0) → HeldPacket T → Type 0
Holds P held = P held.item

kept_each : {T : Type 0} (P : T → Type 0) (w : Way) (x : T) → P x → Each (Holds P) (kept w x)
kept_each P ways.Passes x h = tt
kept_each P ways.Lost x h = tt
kept_each P ways.Twice x h = tt
kept_each P (ways.Kept until) x h = (h, tt)

held_each : {T : Type 0} (P : T → Type 0) (plan : List LinkFault) (k : ℕ) (xs : List T) → Each P xs → Each (Holds P) (held_of plan k xs)
held_each P plan k [] all = tt
held_each P plan k (x ∷ xs) all = both (Holds P) (kept (fate plan (k + 1)) x) (held_of plan (k + 1) xs) (kept_each P (fate plan (k + 1)) x all.0) (held_each P plan (k + 1) xs all.1)

due_each : {T : Type 0} (P : T → Type 0) (n : ℕ) (held : List (HeldPacket T)) → Each (Holds P) held → Each P (due n held)
due_each P n [] all = tt
due_each {T} P n (h ∷ held) all = by (is_due n h) (due_each P n held all.1)
  where
    by : (b : Bool) → Each P (due n held) → Each P (map item_of (cond b (h ∷ filter (is_due n) held) (filter (is_due n) held)))
    by true rest = (all.0, rest)
    by false rest = rest

pub out_each : {T : Type 0} (P : T → Type 0) (plan : List LinkFault) (before xs : List T) → Each P before → Each P xs → Each P (goes_out plan before xs)
out_each P plan before [] was all = tt
out_each P plan before (x ∷ xs) was all =
    both P (own (fate plan (length before + 1)) x ++ due (length before + 1) (held_of plan 0 before)) (goes_out plan (before ++ x ∷ []) xs)
    (both P (own (fate plan (length before + 1)) x) (due (length before + 1) (held_of plan 0 before)) (own_each P (fate plan (length before + 1)) x all.0) (due_each P (length before + 1) (held_of plan 0 before) (held_each P plan 0 before was)))
    (out_each P plan (before ++ x ∷ []) xs (both P before (x ∷ []) was (all.0, tt)) all.1)
