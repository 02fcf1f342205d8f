-- Which server an operation is for: one of a node, or the client that it lends to; and what is served lawfully stood.
use Rattle.qs_world_runs.proofs.Words.{◌≡◌, ℕ, ◌==◌, Bool, true, false, Option, Some, None, refl, sym, subst, ap, arith, if◌then◌else◌, eqb-true, nat_tests, is_some, nat_lt, ClientNo, Member, NodeNo, ServerNo, Tid, held, BookValue, find_transaction, broken, TransactionValue, standing_request, Request, client_no, extra_no, names_no, Op, Reply, lent_to, entry_of, Actor, actor, same_Some}
use Rattle.qs_ipc.specs.Queue.{is_for}
use Rattle.qs_book_journal.specs.declared.entry.Act.TheVariants as acts
use Rattle.qs_book_machine.specs.Clauses.{broken_request, broken_serve, request_here}
use Rattle.qs_book_machine.specs.Nodes as machine
use Rattle.qs_ops.specs.Servers.{audit_no, scratch_no, timers_no, windows_no}
use Rattle.qs_ops.specs.declared.operation.Op.TheVariants as ops

-- a server of a node, or the client that is lent to
abbrev pub Kind : Option ClientNo → ServerNo → Type 0
Kind None server = nat_lt server.0 7 ≡ true
Kind (Some client) server = (nat_lt client.0 224 ≡ true) × (server.0 ≡ client_no client.0)

low : (a b : ℕ) → nat_lt b 7 ≡ true → (b == a) ≡ true → nat_lt a 7 ≡ true
low a b p q = grind (arith, nat_tests, p, q)

pub kind_of : (server : ServerNo) (op : Op) → is_for server op ≡ true → Kind (lent_to op) server
kind_of server (ops.Put name text) is = low server.0 0 refl is
kind_of server (ops.Append name text) is = low server.0 0 refl is
kind_of server (ops.Del name) is = low server.0 0 refl is
kind_of server (ops.Get name) is = low server.0 0 refl is
kind_of server ops.Listing is = low server.0 0 refl is
kind_of server (ops.Note text) is = low server.0 audit_no refl is
kind_of server ops.Notes is = low server.0 audit_no refl is
kind_of server (ops.Bind name text) is = low server.0 names_no refl is
kind_of server (ops.Find name) is = low server.0 names_no refl is
kind_of server (ops.Timer name ticks) is = low server.0 timers_no refl is
kind_of server (ops.Left name) is = low server.0 timers_no refl is
kind_of server (ops.Window name text) is = low server.0 windows_no refl is
kind_of server (ops.Title name) is = low server.0 windows_no refl is
kind_of server (ops.Keep name text) is = low server.0 scratch_no refl is
kind_of server (ops.Fetch name) is = low server.0 scratch_no refl is
kind_of server (ops.Extra code text) is = low server.0 extra_no refl is
kind_of server (ops.Lend client) is = by (nat_lt client.0 224) refl is
  where
    server_as : ℕ → ServerNo
    server_as k = record { 0 = k }

    for : Option ServerNo → Bool
    for o = elim o [ None ↦ false | Some its ↦ its.0 == server.0 ]

    by : (b : Bool) → nat_lt client.0 224 ≡ b → for (if b then Some (server_as (client_no client.0)) else None) ≡ true → (nat_lt client.0 224 ≡ true) × (server.0 ≡ client_no client.0)
    by true small its = (small, sym (eqb-true (client_no client.0) server.0 its))
    by false small its = absurd (cc its)

-- a request of that number stood at its member
pub served_stands : (book : BookValue) (n stamp : ℕ) (tid : Tid) (member : Member) (from : NodeNo) (number : ℕ) (reply : Reply) → broken book (entry_of n stamp (acts.Serve tid member from number reply)) ≡ None
    → (tx : TransactionValue) → find_transaction book tid ≡ Some tx → is_some (standing_request tx (record { link = record { from = from; to = member.node }; number = number }) member) ≡ true
served_stands book n stamp tid member from number reply h tx found = by (actor book (entry_of n stamp (acts.Serve tid member from number reply)) h)
  where
    asked_for : (node : machine.NodeValue) (o : Option TransactionValue) → o ≡ Some tx → broken_serve n node book.transactions tid o member from.0 number reply ≡ None → is_some (standing_request tx (record { link = record { from = from; to = member.node }; number = number }) member) ≡ true
    asked_for node None is allowed = absurd (cc is)
    asked_for node (Some x) is allowed = subst (λ (y : TransactionValue). is_some (standing_request y (record { link = record { from = from; to = member.node }; number = number }) member) ≡ true) (same_Some x tx is) (some (request_here n x member from.0 number) refl allowed)
      where
        picked : (b : Bool) (o : Option Request) (r : Request) → (if b then o else None) ≡ Some r → is_some o ≡ true
        picked true o r e = ap (λ (x : Option Request). is_some x) e
        picked false o r e = absurd (cc e)

        some : (o : Option Request) → request_here n x member from.0 number ≡ o → broken_request n node book.transactions tid x member o reply ≡ None → is_some (standing_request x (record { link = record { from = from; to = member.node }; number = number }) member) ≡ true
        some None e allowed = absurd (cc allowed)
        some (Some r) e allowed = picked (member.node.0 == n) (standing_request x (record { link = record { from = from; to = member.node }; number = number }) member) r e

    by : Actor book (entry_of n stamp (acts.Serve tid member from number reply)) → is_some (standing_request tx (record { link = record { from = from; to = member.node }; number = number }) member) ≡ true
    by a = asked_for a.state (find_transaction book tid) found (held a.state.up 2 _ a.allowed).1
