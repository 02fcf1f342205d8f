-- A serve changes one node and one transaction, or nothing where the transaction is not known.
use Rattle.std.proofs.Common.{◌≡◌, ◌∙◌, ℕ, zero, suc, refl, ap, List, [], ◌∷◌, Option, Some, None}
use Rattle.std.specs.Prelude.{slice_get, slice_set}
use Rattle.std.specs.BTreeMap.{is_at}
use Rattle.std.specs.Map.{set_value}
use Rattle.qs_base.specs.Order.{tid_cmp}
use Rattle.qs_base.specs.declared.identifiers.Member.{Member}
use Rattle.qs_base.specs.declared.identifiers.Tid.{Tid}
use Rattle.qs_ops.specs.declared.reply.Reply.{Reply}
use Rattle.qs_book_machine.specs.Book.{BookValue, changed_at, find_transaction, serve_node, with_node, with_transaction}
use Rattle.qs_book_machine.specs.Nodes.{NodeValue}
use Rattle.qs_book_machine.specs.Transaction.{TransactionValue}
use Rattle.qs_book_machine.specs.declared.transaction.RequestNo.{RequestNo}

unchanged : {A : Type 0} (place : ℕ) (xs : List A) → changed_at place (λ (x : A). x) xs ≡ xs
unchanged place [] = refl
unchanged zero (y ∷ ys) = refl
unchanged {A} (suc i) (y ∷ ys) = by (slice_get ys i) (unchanged i ys)
  where
    by : (o : Option A) → elim o [ None ↦ ys | Some x ↦ slice_set ys i x ] ≡ ys → elim o [ None ↦ y ∷ ys | Some x ↦ y ∷ slice_set ys i x ] ≡ y ∷ ys
    by None is = refl
    by (Some x) is = ap (λ (l : List A). y ∷ l) is

pub served_unknown : (here : ℕ) (at : RequestNo) (tid : Tid) (member : Member) (reply : Reply) (nodes : List NodeValue) → changed_at here (serve_node None at tid member reply) nodes ≡ nodes
served_unknown here at tid member reply nodes = unchanged here nodes

-- what holds of the node and of the transaction by themselves holds of the machine
pub served_known : (here : ℕ) (at : RequestNo) (tid : Tid) (member : Member) (reply : Reply) (f : TransactionValue → TransactionValue) (book now : BookValue) (tx : TransactionValue)
    (nodes : List NodeValue) (transactions : List (Tid × TransactionValue)) → book ≡ now → Some tx ≡ find_transaction book tid
    → nodes ≡ changed_at here (serve_node (Some tx) at tid member reply) book.nodes
    → transactions ≡ set_value (is_at (tid_cmp tid)) book.transactions (f tx)
    → record book { nodes = nodes; transactions = transactions } ≡ with_transaction tid f (with_node here (serve_node (find_transaction now tid) at tid member reply) now)
served_known here at tid member reply f book now tx nodes transactions same known at_node at_tid =
    ap (λ (ns : List NodeValue). record book { nodes = ns; transactions = transactions })
    (at_node ∙ ap (λ (o : Option TransactionValue). changed_at here (serve_node o at tid member reply) book.nodes) known)
    ∙ ap (λ (ts : List (Tid × TransactionValue)). record (with_node here (serve_node (find_transaction book tid) at tid member reply) book) { transactions = ts })
    (at_tid ∙ ap (λ (o : Option TransactionValue). elim o [ None ↦ book.transactions | Some v ↦ set_value (is_at (tid_cmp tid)) book.transactions (f v) ]) known)
    ∙ ap (λ (b : BookValue). with_transaction tid f (with_node here (serve_node (find_transaction b tid) at tid member reply) b)) same
