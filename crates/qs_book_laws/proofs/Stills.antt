-- What the law of committed contents sees of a book: whether commit was asked for of each transaction; of each node the
-- contents that files and audit have committed, what is on record, and the Commits of its log. And steps that leave it.
use Rattle.qs_book_laws.proofs.Words.{◌≡◌, ℕ, Bool, true, false, List, Option, refl, ◌∙◌, if◌then◌else◌, slice_get, option_map, is_at, tid_cmp, Tid, TransactionValue, BookValue, find_transaction, with_node, with_transaction, with_owner, NodeValue, OnRecord, Owner, Voter}
use Rattle.qs_ops.specs.declared.file.File.{File}
use Rattle.qs_book_laws.proofs.Maps.{changed_alike, changed_at_alike}

pub record Facet : Type 0 where
  pub files : List File
  pub file_notes : List (List ℕ)  -- of files, which keep none
  pub audit_files : List File  -- of audit, which keeps none
  pub notes : List (List ℕ)
  pub records : List (Voter × OnRecord)
  pub committed : List Tid

abbrev pub facet : NodeValue → Facet
facet node = record { files = node.files.contents; file_notes = node.files.notes; audit_files = node.audit.contents; notes = node.audit.notes; records = node.records; committed = node.committed }

abbrev pub asked_of : TransactionValue → Option ℕ
asked_of tx = tx.asked

abbrev pub asks_at : BookValue → Tid → Option (Option ℕ)
asks_at book tid = option_map asked_of (find_transaction book tid)

abbrev pub facet_at : BookValue → ℕ → Option Facet
facet_at book n = option_map facet (slice_get book.nodes n)

-- all of that is the same
pub record Still (old new : BookValue) : Type 0 where
  pub asks : (tid : Tid) → asks_at new tid ≡ asks_at old tid
  pub facets : (n : ℕ) → facet_at new n ≡ facet_at old n

pub still_self : (book : BookValue) → Still book book
still_self book = record { asks = λ tid. refl; facets = λ n. refl }

pub still_then : (old mid new : BookValue) → Still old mid → Still mid new → Still old new
still_then old mid new a b = record { asks = λ tid. b.asks tid ∙ a.asks tid; facets = λ n. b.facets n ∙ a.facets n }

pub transaction_still : (tid : Tid) (f : TransactionValue → TransactionValue) → ((tx : TransactionValue) → asked_of (f tx) ≡ asked_of tx) → (book : BookValue) → Still book (with_transaction tid f book)
transaction_still tid f keeps book = record {
  asks = λ q. changed_alike (is_at (tid_cmp tid)) asked_of f keeps (is_at (tid_cmp q)) book.transactions;
  facets = λ n. refl;
}

pub node_still : (here : ℕ) (f : NodeValue → NodeValue) → ((node : NodeValue) → facet (f node) ≡ facet node) → (book : BookValue) → Still book (with_node here f book)
node_still here f keeps book = record { asks = λ q. refl; facets = λ n. changed_at_alike facet f keeps book.nodes here n }

pub owner_still : (client : ℕ) (f : Owner → Owner) (book : BookValue) → Still book (with_owner client f book)
owner_still client f book = record { asks = λ q. refl; facets = λ n. refl }

pub either_still : (b : Bool) (old x y : BookValue) → Still old x → Still old y → Still old (if b then x else y)
either_still true old x y p q = p
either_still false old x y p q = q
