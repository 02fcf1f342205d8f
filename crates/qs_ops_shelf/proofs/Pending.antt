-- A transaction has a text pending at just the names that its changes change.
use Rattle.std.proofs.Common.{◌≡◌, ℕ, List, [], ◌∷◌, Option, Some, None, refl, sym, ap, ◌∙◌}
use Rattle.std.specs.Prelude.{Bool, true, false, ◌||◌, is_some, if◌then◌else◌}
use Rattle.std.specs.List.{fold, list_any}
use Rattle.qs_base.specs.declared.identifiers.Tid.{Tid}
use Rattle.qs_ops.specs.declared.operation.Op.{Op}
use Rattle.qs_ops.specs.declared.operation.Op.TheVariants.{Put, Append, Del, Bind, Window, Keep}
use Rattle.qs_ops.specs.declared.share.Share.{Share}
use Rattle.qs_ops.specs.Table.{is_change_of, changes_name}
use Rattle.qs_ops_shares.specs.Shares.{share_in}
use Rattle.qs_ops_shelf.specs.Changed.{changed_at, text_by}
use Rattle.qs_ops_shelf.specs.Slots.{Entries, pending_in, Follows}
use Rattle.qs_ops_shelf.specs.Texts.{shadowed}
use Rattle.qs_ops_shelf.proofs.Committed.{not_pending}

-- where nothing is under a name, nothing is there in the other case
abbrev Agree : Option (List ℕ) → Option (List ℕ) → Type 0
Agree a b = a ≡ None → b ≡ None

either : (c : Bool) (a b x y : Option (List ℕ)) → Agree a b → Agree x y → Agree (if c then x else a) (if c then y else b)
either true a b x y before after = after
either false a b x y before after = before

-- a change to the name settles what is there, whatever was there before
made : (q : List ℕ) (op : Op) (a b : Option (List ℕ)) → is_change_of q op ≡ true → Agree (text_by a op) (text_by b op)
made q (Put name text) a b is = λ e. absurd (cc)
made q (Append name text) a b is = λ e. absurd (cc)
made q (Del name) a b is = λ e. refl
made q (Bind name text) a b is = λ e. absurd (cc)
made q (Window name text) a b is = λ e. absurd (cc)
made q (Keep name text) a b is = λ e. absurd (cc)
made q op a b is = absurd (cc)

stepped : (q : List ℕ) (op : Op) (a b : Option (List ℕ)) → Agree a b → Agree (changed_at q a op) (changed_at q b op)
stepped q op a b before =
    (elim (is_change_of q op) as (λ c. is_change_of q op ≡ c → Agree (if c then text_by a op else a) (if c then text_by b op else b)) [
      | true ↦ λ is. made q op a b is
      | false ↦ λ is. before
    ]) refl

agreed : (q : List ℕ) (ops : List Op) (a b : Option (List ℕ)) → Agree a b → Agree (fold (changed_at q) a ops) (fold (changed_at q) b ops)
agreed q [] a b before = before
agreed q (op ∷ ops) a b before = agreed q ops (changed_at q a op) (changed_at q b op) (stepped q op a b before)

settled : (q : List ℕ) (ops : List Op) (a b : Option (List ℕ)) → list_any (is_change_of q) ops ≡ true → Agree (fold (changed_at q) a ops) (fold (changed_at q) b ops)
settled q [] a b some = absurd (cc)
settled q (op ∷ ops) a b some =
    (elim (is_change_of q op) as (λ c. is_change_of q op ≡ c → c || list_any (is_change_of q) ops ≡ true → Agree (fold (changed_at q) (if c then text_by a op else a) ops) (fold (changed_at q) (if c then text_by b op else b) ops)) [
      | true ↦ λ is any. agreed q ops (text_by a op) (text_by b op) (made q op a b is)
      | false ↦ λ is any. settled q ops a b any
    ]) refl some

pub pending-changed : (slots : Entries) (shares : List (Tid × Share)) (tid : Tid) (q : List ℕ) → Follows slots shares → is_some (pending_in slots q tid) ≡ changes_name q (share_in shares tid)
pending-changed slots shares tid q follows =
    (elim (list_any (is_change_of q) (share_in shares tid).changes) as (λ c. list_any (is_change_of q) (share_in shares tid).changes ≡ c → is_some (pending_in slots q tid) ≡ c) [
      | true ↦ λ some. found (pending_in slots q tid) refl some
      | false ↦ λ none. ap (λ (p : Option (List ℕ)). is_some p) (not_pending slots shares tid q follows none)
    ]) refl
  where
    found : (p : Option (List ℕ)) → pending_in slots q tid ≡ p → list_any (is_change_of q) (share_in shares tid).changes ≡ true → is_some p ≡ true
    found (Some text) is some = refl
    found None is some =
        let gone : fold (changed_at q) None (share_in shares tid).changes ≡ None = follows.texts tid q None ∙ ap (λ (o : Option (List ℕ)). shadowed o None) is in
        let there : fold (changed_at q) (Some []) (share_in shares tid).changes ≡ Some [] = follows.texts tid q (Some []) ∙ ap (λ (o : Option (List ℕ)). shadowed o (Some [])) is in
        let bad : Some [] ≡ None = sym there ∙ settled q (share_in shares tid).changes None (Some []) some gone in
        absurd (cc)
