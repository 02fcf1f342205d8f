-- What stands in the machine at every time stands as a run opens from coherent logs, and so after every lawful history.
use Rattle.qs_world_lawful.proofs.Words.{◌≡◌, ◌⊎◌, inl, inr, ℕ, ◌<◌, ◌≤◌, ◌+◌, ◌==◌, ◌&&◌, Bool, true, false, List, [], ◌∷◌, length, map, fold, Option, Some, None, zero, suc, refl, sym, ap, subst, ◌∙◌, arith, nat_lt, if◌then◌else◌, nat_tests, slice_get-map, slice_get, option_map, filter, list_any, insert_entry, is_at, tid_cmp, Member, NodeNo, Tid, tid_exact, Entry, IsCoherent, tid_itself, face, clash, same_number, lookup_put, lookup_put_apart, first_book, opening_holds, opening_names, BookValue}
use Rattle.qs_world_lawful.proofs.Words.{find_transaction, IsLawful, book_after, effect, has_commit, name_all, name_from, name_pending, name_transaction, opened_transaction, opening, member_at, TransactionValue, found_at, found_part, has_note, is_open, is_standing, no_part, sent_in, sent_on, Opened, Pending, Request, RequestNo, has_issued, Lasts, StandsOnce, IsNamed, AreFor, op_in, zero_le, zero_plus}
use Rattle.qs_book_laws.proofs.Always.{opening_so}
use Rattle.qs_book_laws.proofs.ShutOpenings.{opening_opens, opening_shut}
use Rattle.qs_book_laws.proofs.Tidy.{opening_tidy}
use Rattle.qs_book_machine.specs.Nodes as machine
use Rattle.qs_book_machine.specs.Opening.{opened_node}
use Rattle.qs_book_machine.specs.Transaction.{opened_as, part_of}
use Rattle.qs_book_machine.specs.Transaction as transaction
use Rattle.qs_book_machine.specs.declared.transaction.Cell.TheVariants as cells
use Rattle.qs_ops.specs.declared.answer.Cause.TheVariants as causes
use Rattle.qs_world_lawful.proofs.Apart.{Apart, same_or_apart}
use Rattle.qs_world_lawful.proofs.LastsEntry.{lasts_on}
use Rattle.qs_world_lawful.proofs.LastsWell.{LastsWell, lasts_of}
use Rattle.qs_world_lawful.proofs.Turning.{IsFar, some_of, stood, turned_by}
use Rattle.qs_world_lawful.proofs.TurningParts.{part_put}
use Rattle.qs_base_lemmas.proofs.Tests.{plus_zero}

-- ---- parts as a run opens: of the incarnation of each node

module _ (logs : List Opened) where
  abbrev nodes : List machine.NodeValue
  nodes = map opened_node logs

  -- nothing is kept of an incarnation to come
  abbrev Past : TransactionValue → Type 0
  Past tx = (m : Member) (i : ℕ) (state : machine.NodeValue) → slice_get nodes m.node.0 ≡ Some state → state.inc < i → part_of tx m i ≡ no_part

  abbrev Opens : ℕ → ℕ → Type 0
  Opens n inc = (state : machine.NodeValue) → slice_get nodes n ≡ Some state → state.inc ≡ inc

  abbrev AllPast : BookValue → Type 0
  AllPast book = (tid : Tid) (tx : TransactionValue) → find_transaction book tid ≡ Some tx → Past tx

  found_past : (n server inc covers changes : ℕ) → Opens n inc → (tx : TransactionValue) → Past tx → Past (found_at (member_at n server) inc covers changes tx)
  found_past n server inc covers changes opens tx past m i state there low = part_put n inc (member_at n server) refl (found_part covers changes) tx m i far ∙ past m i state there low
    where
      apart : (a b c : ℕ) → a ≡ b → a < c → (c == b) ≡ false
      apart a b c e p = grind (arith, nat_tests, e, p)

      far : IsFar n inc m.node i
      far = by (m.node.0 == n) refl
        where
          by : (b : Bool) → (m.node.0 == n) ≡ b → (b && (i == inc)) ≡ false
          by false is = refl
          by true is = apart state.inc inc i (opens state (ap (slice_get nodes) (sym (same_number m.node.0 n is)) ∙ there)) low

  opened_past : (states : List machine.NodeValue) (t : Tid) → Past (opened_transaction states t)
  opened_past states t m i state there low = by (list_any (has_commit t) states) (nat_lt t.home.0 (length states))
    where
      by : (b c : Bool) → part_of (if b then opened_as cells.Commit None else if c then opened_as cells.Abort (Some (causes.Home t.inc)) else opened_as cells.Open None) m i ≡ no_part
      by true c = refl
      by false true = refl
      by false false = refl

  name_past : (book : BookValue) (t : Tid) → AllPast book → AllPast (name_transaction book t)
  name_past book t all = by (find_transaction book t)
    where
      put : BookValue
      put = record book { transactions = insert_entry tid_cmp book.transactions t (opened_transaction book.nodes t) }

      by : (o : Option TransactionValue) → AllPast (elim o [ Some tx ↦ book | None ↦ put ])
      by (Some tx) = all
      by None = each
        where
          at : (tid : Tid) (tx : TransactionValue) → find_transaction put tid ≡ Some tx → (t ≡ tid) ⊎ Apart t tid → Past tx
          at tid tx found (inl same) = subst Past (some_of (sym (lookup_put tid_cmp t (opened_transaction book.nodes t) (tid_itself t) book.transactions) ∙ (ap (find_transaction put) same ∙ found))) (opened_past book.nodes t)
          at tid tx found (inr far) = all tid tx (sym (lookup_put_apart tid_cmp t (opened_transaction book.nodes t) (λ x. tid_exact t x) (is_at (tid_cmp tid)) far.at book.transactions) ∙ found)

          each : AllPast put
          each tid tx found = at tid tx found (same_or_apart t tid)

  names_past : (tids : List Tid) (book : BookValue) → AllPast book → AllPast (fold name_transaction book tids)
  names_past [] book all = all
  names_past (t ∷ tids) book all = names_past tids (name_transaction book t) (name_past book t all)

  vote_past : (n inc : ℕ) → Opens n inc → (book : BookValue) (p : Pending) → AllPast book → AllPast (name_pending n inc book p)
  vote_past n inc opens book p all tid later found =
      let f : TransactionValue → TransactionValue = found_at (member_at n p.server.0) inc p.covers (length p.changes) in
      let s = stood (λ t tx later. Past tx → Past later) (name_transaction book p.tid) (name_pending n inc book p)
      (turned_by (λ t tx later. Past tx → Past later) (λ t tx past. past) p.tid f (name_transaction book p.tid) (name_pending n inc book p) refl (λ tx at. found_past n p.server.0 inc p.covers (length p.changes) opens tx)) tid later found in
      s.2 (name_past book p.tid all tid s.0 s.1)

  votes_past : (n inc : ℕ) → Opens n inc → (pending : List Pending) (book : BookValue) → AllPast book → AllPast (fold (name_pending n inc) book pending)
  votes_past n inc opens [] book all = all
  votes_past n inc opens (p ∷ pending) book all = votes_past n inc opens pending (name_pending n inc book p) (vote_past n inc opens book p all)

  logs_past : (n : ℕ) (rest : List Opened) → ((k : ℕ) (one : Opened) → slice_get rest k ≡ Some one → Opens (n + k) one.inc) → (book : BookValue) → AllPast book → AllPast (name_from n rest book)
  logs_past n [] each book all = all
  logs_past n (one ∷ rest) each book all =
      logs_past (suc n) rest (λ k other is. subst (λ (m : ℕ). Opens m other.inc) (over n k) (each (suc k) other is)) (name_all n one book)
      (votes_past n one.inc (subst (λ (m : ℕ). Opens m one.inc) (plus_zero n) (each 0 one refl)) one.pending (fold name_transaction book one.committed) (names_past one.committed book all))
    where
      over : (a b : ℕ) → a + suc b ≡ suc a + b
      over a b = omega arith

  opening_past : AllPast (opening logs)
  opening_past = logs_past 0 logs (λ k one is state there. of one is state (sym (slice_get-map opened_node logs k) ∙ (ap (slice_get nodes) (sym (zero_plus k)) ∙ there))) (first_book logs) (λ tid tx found. absurd (cc found))
    where
      of : {o : Option Opened} (one : Opened) → o ≡ Some one → (state : machine.NodeValue) → option_map opened_node o ≡ Some state → state.inc ≡ one.inc
      of one is state e = ap (λ (s : machine.NodeValue). s.inc) (some_of (sym e ∙ ap (option_map opened_node) is))

-- ---- all else is empty then

pub record IsEmptyYet (tx : TransactionValue) : Type 0 where
  pub requests : tx.requests ≡ []
  pub sent : tx.sent ≡ []
  pub noted : tx.noted ≡ []
  pub crossed : tx.crossed ≡ []
  pub undecided : tx.decided ≡ None
  pub unasked : tx.asked ≡ None
  pub owner : tx.owner ≡ None
  pub label : tx.label ≡ None

pub opening_empty : (opened : List Opened) (tid : Tid) (tx : TransactionValue) → find_transaction (opening opened) tid ≡ Some tx → IsEmptyYet tx
opening_empty opened tid = opening_so tid IsEmptyYet
    (λ cell cause. record { requests = refl; sent = refl; noted = refl; crossed = refl; undecided = refl; unasked = refl; owner = refl; label = refl })
    (λ member inc covers changes tx e. record { requests = e.requests; sent = e.sent; noted = e.noted; crossed = e.crossed; undecided = e.undecided; unasked = e.unasked; owner = e.owner; label = e.label }) opened

pub empty_once : (tx : TransactionValue) → IsEmptyYet tx → StandsOnce tx
empty_once tx e = record {
  whole = λ is. ap transaction.is_empty e.crossed;
  once = λ member at clean. subst (λ (rs : List Request). length (filter (is_standing member) rs) ≤ 1) (sym (none at)) low;
  fits = λ member at. subst (λ (rs : List Request). AreFor member.server (map op_in (filter (is_standing member) rs))) (sym (none at)) tt;
}
  where
    low : 0 ≤ 1
    low = grind arith

    none : (at : RequestNo) → transaction.requests_at tx at ≡ []
    none at = ap (λ rs. transaction.requests_in rs at) e.requests

-- ---- all of it

-- each transaction that a log holds is numbered from 1
module _ (opened : List Opened) (coherent : IsCoherent opened) (named : IsNamed (opening opened)) where
  abbrev book : BookValue
  book = opening opened

  nodes_are : book.nodes ≡ map opened_node opened
  nodes_are = (opening_names opened coherent).nodes

  empty : (tid : Tid) (tx : TransactionValue) → find_transaction book tid ≡ Some tx → IsEmptyYet tx
  empty tid tx found = opening_empty opened tid tx found

  pub lasts_first : LastsWell book
  lasts_first = record {
    inv = opening_holds opened coherent;
    shut = opening_shut opened coherent;
    tidy = opening_tidy opened coherent;
    stopped = λ n node is. of n node (slice_get opened n) (sym (slice_get-map opened_node opened n) ∙ (ap (λ ns. slice_get ns n) (sym nodes_are) ∙ is));
    named = named;
    past = λ tid tx place found is. absurd (cc (sym (empty tid tx found).undecided ∙ is));
    waits = λ tid tx found. empty_once tx (empty tid tx found);
    before = λ here state tid tx inc there found low. record {
      parts = λ server. opening_past opened tid tx found (record { node = here; server = server }) inc state (ap (λ ns. slice_get ns here.0) (sym nodes_are) ∙ there) low;
      sent = λ peer. ap (λ sent. sent_in inc (sent_on (record tx { sent = sent }) (record { from = here; to = peer }))) (empty tid tx found).sent;
      noted = λ text. ap (λ noted. has_note (record tx { noted = noted }) (record { node = here; inc = inc; text = text })) (empty tid tx found).noted;
    };
    issued = λ here state tid tx inc text there found low. ap (λ rs. has_issued (record tx { requests = rs }) here inc text) (empty tid tx found).requests;
    now = λ here state tid tx there found home undecided. absurd (clash undecided ((opening_opens opened).fresh.closed tid (face tx) (ap (option_map face) found) (in_run here state tid there home)));
  }
    where
      of : (n : ℕ) (node : machine.NodeValue) (o : Option Opened) → option_map opened_node o ≡ Some node → node.stopped ≤ book.place
      of n node None is = absurd (cc is)
      of n node (Some one) is = subst (λ (s : machine.NodeValue). s.stopped ≤ book.place) (some_of is) (zero_le book.place)

      in_run : (here : NodeNo) (state : machine.NodeValue) (tid : Tid) → slice_get book.nodes here.0 ≡ Some state → tid.home ≡ here → nat_lt tid.home.0 (length book.nodes) ≡ true
      in_run here state tid there home = subst (λ (k : NodeNo). nat_lt k.0 (length book.nodes) ≡ true) (sym home) (is_in book.nodes here.0 state there)
        where
          is_in : (xs : List machine.NodeValue) (n : ℕ) (x : machine.NodeValue) → slice_get xs n ≡ Some x → nat_lt n (length xs) ≡ true
          is_in [] n x is = absurd (cc is)
          is_in (y ∷ ys) zero x is = first (length ys)
            where
              first : (a : ℕ) → nat_lt 0 (suc a) ≡ true
              first a = grind (arith, nat_tests)
          is_in (y ∷ ys) (suc n) x is = rise n (length ys) (is_in ys n x is)
            where
              rise : (a b : ℕ) → nat_lt a b ≡ true → nat_lt (suc a) (suc b) ≡ true
              rise a b e = grind (arith, nat_tests, e)

-- every lawful history
pub lasts_ran : (entries : List Entry) (from : BookValue) → LastsWell from → IsLawful from entries → LastsWell (book_after from entries)
lasts_ran [] from w lawful = w
lasts_ran (entry ∷ entries) from w lawful = lasts_ran entries (effect from entry) (lasts_on from entry w lawful.0) lawful.1

pub lasts_always : (opened : List Opened) (entries : List Entry) → IsCoherent opened → IsNamed (opening opened) → IsLawful (opening opened) entries → Lasts (book_after (opening opened) entries)
lasts_always opened entries coherent named lawful = lasts_of (book_after (opening opened) entries) (lasts_ran entries (opening opened) (lasts_first opened coherent named) lawful)
