-- Names, and what stands under each.
use Rattle.std.specs.Prelude.{◌≡◌, ℕ, Bool, List, [], ◌∷◌, Option, Some, None, ◌&&◌, if◌then◌else◌}
use Rattle.std.specs.List.{fold}
use Rattle.std.specs.Map.{lookup}
use Rattle.std.specs.BTreeMap.{is_at}
use Rattle.qs_base.specs.Order.{bytes_cmp, tid_cmp, same_tid}
use Rattle.qs_base.specs.declared.identifiers.Tid.{Tid}
use Rattle.qs_ops.specs.Table.{apply_note}
use Rattle.qs_ops.specs.declared.file.File.{File}
use Rattle.qs_ops.specs.declared.share.Share.{Share}
use Rattle.qs_ops_shares.specs.Shares.{share_in}
use Rattle.qs_ops_shelf.specs.Changed.{changed_at}
use Rattle.qs_ops_shelf.specs.Texts.{shadowed}
use Rattle.qs_ops_shelf.specs.declared.slot.ShelfText.{ShelfText}

-- names in byte order, and what stands under each
abbrev pub Entries : Type 0
Entries = List (List ℕ × ShelfText)

-- ---- at one name

abbrev pub slot_in : Entries → List ℕ → Option ShelfText
slot_in slots name = lookup (is_at (bytes_cmp name)) slots

abbrev pub text_of : Option ShelfText → Option (List ℕ)
text_of None = None
text_of (Some slot) = slot.text

abbrev pub pending_of : Option ShelfText → Tid → Option (List ℕ)
pending_of None tid = None
pending_of (Some slot) tid = lookup (is_at (tid_cmp tid)) slot.pending.entries

-- the committed text under a name
abbrev pub text_in : Entries → List ℕ → Option (List ℕ)
text_in slots name = text_of (slot_in slots name)

-- the text that a transaction is about to put there
abbrev pub pending_in : Entries → List ℕ → Tid → Option (List ℕ)
pending_in slots name tid = pending_of (slot_in slots name) tid

-- ---- at all names

-- what is committed, in byte order of the names
abbrev pub files_in : Entries → List File
files_in [] = []
files_in (e ∷ es) = elim e.1.text [ None ↦ files_in es | Some text ↦ record { name = e.0; content = text } ∷ files_in es ]

-- the committed texts are the same
abbrev pub SameTexts : Entries → Entries → Type 0
SameTexts old new = (q : List ℕ) → text_in new q ≡ text_in old q

-- all have pending what they had
abbrev pub SamePending : Entries → Entries → Type 0
SamePending old new = (q : List ℕ) (t : Tid) → pending_in new q t ≡ pending_in old q t

-- the transaction has this text pending at the names that pass a test; all else is as it was
abbrev pub IsStaged : (List ℕ → Bool) → Tid → Option (List ℕ) → Entries → Entries → Type 0
IsStaged test tid text old new =
    (q : List ℕ) (t : Tid) → pending_in new q t ≡ (if test q && same_tid tid t then text else pending_in old q t)

-- where the test passes, what the transaction had pending is committed
abbrev pub IsSettled : (List ℕ → Bool) → Tid → Entries → Entries → Type 0
IsSettled test tid old new =
    (q : List ℕ) → text_in new q ≡ (if test q then shadowed (pending_in old q tid) (text_in old q) else text_in old q)

-- ---- with what the transactions hold

-- what is pending at each name is what the share's changes make of any text there; no note is pending
pub record Follows (slots : Entries) (shares : List (Tid × Share)) : Type 0 where
  pub texts : (tid : Tid) (name : List ℕ) (before : Option (List ℕ)) → fold (changed_at name) before (share_in shares tid).changes ≡ shadowed (pending_in slots name tid) before
  pub notes : (tid : Tid) (notes : List (List ℕ)) → fold apply_note notes (share_in shares tid).changes ≡ notes
