-- What was put to a link goes out by its plan: one induction over the packets.
use Rattle.std.proofs.Common.{◌≡◌, ℕ, ◌+◌, refl, sym, subst, ap, ◌∙◌, arith, List, [], ◌∷◌, ◌++◌, length}
use Rattle.std.proofs.lemmas.List.{append_assoc, length-append, append-nil}
use Rattle.qs_link.specs.Lane.{DrawValue, Fed, Drawn, IsFifo, on_way}
use Rattle.qs_link.specs.Plan.{OutgoingValue, PutOne, PutNone, HoldsSome, IsFresh, fate, own, due}
use Rattle.qs_link.specs.declared.outgoing.LinkFault.{LinkFault}
use Rattle.qs_link.specs.Planned.{held_of, goes_out, still_held, HasPut, PutAll, IsLink, Carried}
use Rattle.qs_packet.specs.declared.packet.Packet.{Packet}
use Rattle.qs_link.proofs.Feeding.{fed_trans, went}
use Rattle.qs_link.proofs.Holding.{due_still, still_more}

-- what went out, and what is held
pub record Gone (before xs : List Packet) (o p : OutgoingValue) : Type 0 where
  pub fed : Fed (goes_out o.plan before xs) o.feed p.feed
  pub has : HasPut (before ++ xs) p
  pub plan : p.plan ≡ o.plan

put_one : (before : List Packet) (x : Packet) (o a b : OutgoingValue) → HoldsSome o.plan → HasPut before o → PutNone o a → PutOne x a b
    → Fed (own (fate o.plan (length before + 1)) x ++ due (length before + 1) (held_of o.plan 0 before)) o.feed b.feed × HasPut (before ++ x ∷ []) b
put_one before x o a b some has none one =
    let number : a.count + 1 ≡ length before + 1 = ap (λ (n : ℕ). n + 1) (none.count ∙ has.count) in
    let held : a.held ≡ still_held o.plan before = none.held ∙ has.held in
    let plan : b.plan ≡ o.plan = one.plan ∙ none.plan in
    let out : Fed (own (fate o.plan (length before + 1)) x ++ due (length before + 1) (still_held o.plan before)) a.feed b.feed =
    rw (← number, ← held, ← none.plan) one.out in
    let items : own (fate o.plan (length before + 1)) x ++ due (length before + 1) (still_held o.plan before)
    ≡ own (fate o.plan (length before + 1)) x ++ due (length before + 1) (held_of o.plan 0 before) =
    ap (λ (l : List Packet). own (fate o.plan (length before + 1)) x ++ l) (due_still o.plan before) in
    let stays : b.held ≡ still_held o.plan (before ++ x ∷ []) =
    one.held ∙ rw (number, held, none.plan) (still_more o.plan before x some (omega (arith, one.few, number))) in (
      fed_trans [] (own (fate o.plan (length before + 1)) x ++ due (length before + 1) (held_of o.plan 0 before)) o.feed a.feed b.feed none.out
          (subst (λ (l : List Packet). Fed l a.feed b.feed) items out),
      record { count = one.count ∙ number ∙ sym (length-append before (x ∷ [])); held = rw plan stays },
    )

pub put_all : (xs before : List Packet) (o p : OutgoingValue) → HoldsSome o.plan → HasPut before o → PutAll xs o p → Gone before xs o p
put_all [] before o p some has none = record {
  fed = none.out;
  has = rw (append-nil before) (record { count = none.count ∙ has.count; held = rw none.plan (none.held ∙ has.held) });
  plan = none.plan;
}
put_all (x ∷ xs) before o p some has s =
    let one = put_one before x o s.pushed s.after some has s.none s.one in
    let plan : s.after.plan ≡ o.plan = s.one.plan ∙ s.none.plan in
    let rest = put_all xs (before ++ x ∷ []) s.after p (rw plan some) one.1 s.others in
    let out : Fed (goes_out o.plan (before ++ x ∷ []) xs) s.after.feed p.feed = rw (← plan) rest.fed in
    record {
      fed = fed_trans (own (fate o.plan (length before + 1)) x ++ due (length before + 1) (held_of o.plan 0 before)) (goes_out o.plan (before ++ x ∷ []) xs) o.feed s.after.feed p.feed one.0 out;
      has = rw (← append_assoc before (x ∷ []) xs) rest.has;
      plan = rest.plan ∙ plan;
    }

goes_out_append : (plan : List LinkFault) (before xs ys : List Packet) → goes_out plan before (xs ++ ys) ≡ goes_out plan before xs ++ goes_out plan (before ++ xs) ys
goes_out_append plan before [] ys = ap (λ (l : List Packet). goes_out plan l ys) (sym (append-nil before))
goes_out_append plan before (x ∷ xs) ys =
    let first : List Packet = own (fate plan (length before + 1)) x ++ due (length before + 1) (held_of plan 0 before) in
    ap (λ (l : List Packet). first ++ l) (goes_out_append plan (before ++ x ∷ []) xs ys)
    ∙ sym (append_assoc first (goes_out plan (before ++ x ∷ []) xs) (goes_out plan ((before ++ x ∷ []) ++ xs) ys))
    ∙ ap (λ (l : List Packet). (first ++ goes_out plan (before ++ x ∷ []) xs) ++ goes_out plan l ys) (append_assoc before (x ∷ []) xs)

-- ---- a link

pub begins : (o : OutgoingValue) (i : DrawValue Packet) (plan : List LinkFault) → IsFresh plan o → on_way o.feed i ≡ [] → IsLink [] [] o i
begins o i plan fresh none = record { has = record { count = fresh.count; held = fresh.held }; way = none }

pub goes_on : (put taken xs ts : List Packet) (o p : OutgoingValue) (i j : DrawValue Packet) → HoldsSome o.plan → IsLink put taken o i
    → IsFifo o.feed i → IsFifo p.feed j → PutAll xs o p → Drawn ts i j → IsLink (put ++ xs) (taken ++ ts) p j
goes_on put taken xs ts o p i j some link was is puts drawn =
    let gone = put_all xs put o p some link.has puts in
    let moved : ts ++ on_way p.feed j ≡ on_way o.feed i ++ goes_out o.plan put xs = went (goes_out o.plan put xs) ts o.feed p.feed i j was is gone.fed drawn in
    record {
      has = gone.has;
      way = append_assoc taken ts (on_way p.feed j) ∙ ap (λ (l : List Packet). taken ++ l) moved ∙ sym (append_assoc taken (on_way o.feed i) (goes_out o.plan put xs))
          ∙ ap (λ (l : List Packet). l ++ goes_out o.plan put xs) link.way ∙ sym (goes_out_append o.plan [] put xs) ∙ rw gone.plan refl;
    }

pub is_carried : (put taken : List Packet) (o p : OutgoingValue) (i j : DrawValue Packet) → IsLink put taken o i → Carried o p i j → IsLink put taken p j
is_carried put taken o p i j link c = record {
  has = record { count = c.count ∙ link.has.count; held = rw c.plan (c.held ∙ link.has.held) };
  way = rw (c.way, c.plan) link.way;
}
