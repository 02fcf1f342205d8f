-- What is pending follows what the transactions hold, whatever is served or ends.
use Rattle.std.proofs.Common.{◌≡◌, ℕ, List, [], ◌∷◌, ◌++◌, Option, Some, None, refl, sym, ap, ◌∙◌, append-nil}
use Rattle.std.specs.Prelude.{Bool, true, false, ◌&&◌, if◌then◌else◌}
use Rattle.std.specs.List.{fold, list_any}
use Rattle.std.proofs.lemmas.List.Sums.{fold-append}
use Rattle.qs_base.specs.Order.{same_bytes, same_tid}
use Rattle.qs_base.specs.declared.identifiers.Tid.{Tid}
use Rattle.qs_base.proofs.Same.{same_bytes-true, same_tid-true, same_tid-self}
use Rattle.qs_ops.specs.declared.operation.Op.{Op}
use Rattle.qs_ops.specs.declared.share.Share.{Share}
use Rattle.qs_ops.specs.declared.operation.Op.TheVariants.{Bind, Find, Window, Title, Keep, Fetch}
use Rattle.qs_ops.specs.declared.reply.Reply.{Reply}
use Rattle.qs_ops.specs.declared.reply.Reply.TheVariants.{Done, TooMany}
use Rattle.qs_ops.specs.Table.{apply_note, is_change_of, nothing_held, after_serve}
use Rattle.qs_ops_shelf.specs.Plain.{is_plain, put_by}
use Rattle.qs_ops_shares.specs.Shares.{share_in, IsHeld}
use Rattle.qs_ops_shelf.specs.Changed.{changed_at}
use Rattle.qs_ops_shelf.specs.Slots.{Entries, pending_in, IsStaged, Follows}
use Rattle.qs_ops_shelf.specs.Texts.{shadowed}
use Rattle.qs_ops_shelf.proofs.Committed.{not_pending}

-- what one transaction has pending, and what its share's changes make
abbrev FollowsAt : Entries → Share → Tid → Type 0
FollowsAt slots share tid = (name : List ℕ) (before : Option (List ℕ)) → fold (changed_at name) before share.changes ≡ shadowed (pending_in slots name tid) before

-- the shares of one transaction are replaced, and what is pending for it; the others' are as they were
replaced : (old new : Entries) (shares after : List (Tid × Share)) (tid : Tid) (share : Share) → Follows old shares → IsHeld tid share shares after
    → ((q : List ℕ) (t : Tid) → same_tid tid t ≡ false → pending_in new q t ≡ pending_in old q t)
    → FollowsAt new share tid → ((notes : List (List ℕ)) → fold apply_note notes share.changes ≡ notes)
    → Follows new after
replaced old new shares after tid share follows held others here no_notes = record {
  texts = λ t name before. by_text t name before (same_tid tid t) refl;
  notes = λ t notes. by_note t notes (same_tid tid t) refl;
}
  where
    by_text : (t : Tid) (name : List ℕ) (before : Option (List ℕ)) (b : Bool) → same_tid tid t ≡ b → fold (changed_at name) before (share_in after t).changes ≡ shadowed (pending_in new name t) before
    by_text t name before true e =
        ap (λ (s : Share). fold (changed_at name) before s.changes) (held t ∙ ap (λ (b : Bool). if b then share else share_in shares t) e)
        ∙ here name before ∙ ap (λ (s : Tid). shadowed (pending_in new name s) before) (same_tid-true tid t e)
    by_text t name before false e =
        ap (λ (s : Share). fold (changed_at name) before s.changes) (held t ∙ ap (λ (b : Bool). if b then share else share_in shares t) e)
        ∙ follows.texts t name before ∙ ap (λ (p : Option (List ℕ)). shadowed p before) (sym (others name t e))

    by_note : (t : Tid) (notes : List (List ℕ)) (b : Bool) → same_tid tid t ≡ b → fold apply_note notes (share_in after t).changes ≡ notes
    by_note t notes true e = ap (λ (s : Share). fold apply_note notes s.changes) (held t ∙ ap (λ (b : Bool). if b then share else share_in shares t) e) ∙ no_notes notes
    by_note t notes false e = ap (λ (s : Share). fold apply_note notes s.changes) (held t ∙ ap (λ (b : Bool). if b then share else share_in shares t) e) ∙ follows.notes t notes

-- ---- the transaction holds nothing any more

pub follow_ended : (old new : Entries) (shares after : List (Tid × Share)) (tid : Tid) → Follows old shares → IsHeld tid nothing_held shares after
    → IsStaged (λ q. list_any (is_change_of q) (share_in shares tid).changes) tid None old new → Follows new after
follow_ended old new shares after tid follows held staged =
    replaced old new shares after tid nothing_held follows held
    (λ q t other. staged q t ∙ elsewhere (list_any (is_change_of q) (share_in shares tid).changes) (same_tid tid t) other None (pending_in old q t))
    (λ q before. ap (λ (p : Option (List ℕ)). shadowed p before) (sym (nothing q)))
    (λ notes. refl)
  where
    elsewhere : (a b : Bool) → b ≡ false → (x y : Option (List ℕ)) → (if a && b then x else y) ≡ y
    elsewhere a true e x y = absurd (cc)
    elsewhere true false e x y = refl
    elsewhere false false e x y = refl

    here : (b : Bool) (q : List ℕ) → list_any (is_change_of q) (share_in shares tid).changes ≡ b → (if b && same_tid tid tid then None else pending_in old q tid) ≡ None
    here true q e = rw (same_tid-self tid) refl
    here false q e = not_pending old shares tid q follows e

    nothing : (q : List ℕ) → pending_in new q tid ≡ None
    nothing q = staged q tid ∙ here (list_any (is_change_of q) (share_in shares tid).changes) q refl

-- ---- an operation is served

pub follow_unchanged : (slots : Entries) (shares after : List (Tid × Share)) (tid : Tid) (share : Share) → Follows slots shares → IsHeld tid share shares after
    → share.changes ≡ (share_in shares tid).changes → Follows slots after
follow_unchanged slots shares after tid share follows held same =
    replaced slots slots shares after tid share follows held (λ q t other. refl)
    (λ q before. ap (λ (ops : List Op). fold (changed_at q) before ops) same ∙ follows.texts tid q before)
    (λ notes. ap (λ (ops : List Op). fold apply_note notes ops) same ∙ follows.notes tid notes)

-- a change that puts a whole text under a name
pub record PutsText (op : Op) (name text : List ℕ) : Type 0 where
  pub puts : (q : List ℕ) (before : Option (List ℕ)) → changed_at q before op ≡ (if same_bytes name q then Some text else before)
  pub notes : (notes : List (List ℕ)) → apply_note notes op ≡ notes

pub follow_staged : (old new : Entries) (shares after : List (Tid × Share)) (tid : Tid) (share : Share) (op : Op) (name text : List ℕ) → Follows old shares → IsHeld tid share shares after
    → share.changes ≡ (share_in shares tid).changes ++ op ∷ [] → PutsText op name text → IsStaged (same_bytes name) tid (Some text) old new → Follows new after
follow_staged old new shares after tid share op name text follows held more puts staged =
    replaced old new shares after tid share follows held
    (λ q t other. staged q t ∙ elsewhere (same_bytes name q) (same_tid tid t) other (Some text) (pending_in old q t))
    (λ q before. ap (λ (ops : List Op). fold (changed_at q) before ops) more
    ∙ fold-append (changed_at q) before (share_in shares tid).changes (op ∷ [])
    ∙ ap (λ (o : Option (List ℕ)). changed_at q o op) (follows.texts tid q before)
    ∙ puts.puts q (shadowed (pending_in old q tid) before)
    ∙ covered (same_bytes name q) (pending_in old q tid) before
    ∙ ap (λ (p : Option (List ℕ)). shadowed p before) (sym (staged q tid ∙ ap (λ (b : Bool). if same_bytes name q && b then Some text else pending_in old q tid) (same_tid-self tid))))
    (λ notes. ap (λ (ops : List Op). fold apply_note notes ops) more
    ∙ fold-append apply_note notes (share_in shares tid).changes (op ∷ [])
    ∙ puts.notes (fold apply_note notes (share_in shares tid).changes)
    ∙ follows.notes tid notes)
  where
    elsewhere : (a b : Bool) → b ≡ false → (x y : Option (List ℕ)) → (if a && b then x else y) ≡ y
    elsewhere a true e x y = absurd (cc)
    elsewhere true false e x y = refl
    elsewhere false false e x y = refl

    covered : (b : Bool) (pending before : Option (List ℕ)) → (if b then Some text else shadowed pending before) ≡ shadowed (if b && true then Some text else pending) before
    covered true pending before = refl
    covered false pending before = refl

-- ---- what was staged is taken back

pub follow_restored : (old mid new : Entries) (shares : List (Tid × Share)) (name : List ℕ) (tid : Tid) (text before : Option (List ℕ)) → Follows old shares
    → IsStaged (same_bytes name) tid text old mid → before ≡ pending_in old name tid → IsStaged (same_bytes name) tid before mid new → Follows new shares
follow_restored old mid new shares name tid text before follows first is second = record {
  texts = λ t q o. follows.texts t q o ∙ ap (λ (p : Option (List ℕ)). shadowed p o) (sym (back q t));
  notes = λ t notes. follows.notes t notes;
}
  where
    by : (a b : Bool) (q : List ℕ) (t : Tid) → same_bytes name q ≡ a → same_tid tid t ≡ b → (if a && b then before else (if a && b then text else pending_in old q t)) ≡ pending_in old q t
    by true true q t e f = is ∙ ap (λ (n : List ℕ). pending_in old n tid) (same_bytes-true name q e) ∙ ap (λ (s : Tid). pending_in old q s) (same_tid-true tid t f)
    by true false q t e f = refl
    by false b q t e f = refl

    back : (q : List ℕ) (t : Tid) → pending_in new q t ≡ pending_in old q t
    back q t = second q t ∙ ap (λ (o : Option (List ℕ)). if same_bytes name q && same_tid tid t then before else o) (first q t) ∙ by (same_bytes name q) (same_tid tid t) q t refl refl

-- ---- operations that put a text, and others

abbrev first : Option (List ℕ × List ℕ) → List ℕ
first None = []
first (Some p) = p.0

abbrev second : Option (List ℕ × List ℕ) → List ℕ
second None = []
second (Some p) = p.1

put_same : (n t name text q : List ℕ) (before : Option (List ℕ)) → n ≡ name → t ≡ text → (if same_bytes n q then Some t else before) ≡ (if same_bytes name q then Some text else before)
put_same n t name text q before e f =
    ap (λ (m : List ℕ). if same_bytes m q then Some t else before) e ∙ ap (λ (x : List ℕ). if same_bytes name q then Some x else before) f

pub puts_text : (op : Op) (reply : Reply) (name text : List ℕ) → put_by op reply ≡ Some (name, text) → PutsText op name text
puts_text (Bind n t) Done name text is = record { puts = λ q before. put_same n t name text q before (ap first is) (ap second is); notes = λ notes. refl }
puts_text (Window n t) Done name text is = record { puts = λ q before. put_same n t name text q before (ap first is) (ap second is); notes = λ notes. refl }
puts_text (Keep n t) Done name text is = record { puts = λ q before. put_same n t name text q before (ap first is) (ap second is); notes = λ notes. refl }
puts_text op reply name text is = absurd (cc)

pub put_changes : (share : Share) (op : Op) (reply : Reply) (name text : List ℕ) → put_by op reply ≡ Some (name, text) → (after_serve share op reply).changes ≡ share.changes ++ op ∷ []
put_changes share (Bind n t) Done name text is = refl
put_changes share (Window n t) Done name text is = refl
put_changes share (Keep n t) Done name text is = refl
put_changes share op reply name text is = absurd (cc)

pub read_changes : (share : Share) (op : Op) (reply : Reply) → is_plain op ≡ true → put_by op reply ≡ None → (after_serve share op reply).changes ≡ share.changes
read_changes share op TooMany plain reads = refl
read_changes share (Bind n t) Done plain reads = absurd (cc)
read_changes share (Window n t) Done plain reads = absurd (cc)
read_changes share (Keep n t) Done plain reads = absurd (cc)
read_changes share (Find n) Done plain reads = append-nil share.changes
read_changes share (Title n) Done plain reads = append-nil share.changes
read_changes share (Fetch n) Done plain reads = append-nil share.changes
read_changes share op Done plain reads = absurd (cc)
read_changes share op reply plain reads = append-nil share.changes
