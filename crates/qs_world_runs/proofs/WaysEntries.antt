-- What one entry of a node makes of what is on the way to or from it: it leaves it; an issue puts its request behind all that stand, and a serve
-- takes the first of its number that stands at its member.
use Rattle.qs_world_runs.proofs.Words.{◌≡◌, ◌⊎◌, inl, inr, ℕ, ◌==◌, ◌&&◌, Bool, true, false, List, [], ◌∷◌, ◌++◌, map, Option, Some, None, refl, sym, ap, subst, ◌∙◌, if◌then◌else◌, append-nil, eqb-true, is_at, filter, lookup, unwrap_or, same_tid-self, same_tid, tid_cmp, ClientNo, Member, ServerNo, Tid, Act, changed_apart, changed_none, BookValue, find_transaction, inc_at, with_transaction, link_to, broken, effect, TransactionValue, changed_value, is_standing, issued, request_cmp, requests_at}
use Rattle.qs_world_runs.proofs.Words.{requests_in, Request, RequestNo, Op, entry_of, at_server, way_between, IsWithin, same_or_apart, Begins, filter_last, filter_more, LastsWell, HoldsOps, eqb-self, some_same}
use Rattle.qs_book_journal.specs.declared.entry.Act.TheVariants as acts
use Rattle.qs_book_laws.proofs.Holding.{crossing_transactions, waiting_transactions}
use Rattle.qs_book_laws.proofs.Maps.{lookup_changed, lookup_put, lookup_put_apart}
use Rattle.qs_book_machine.specs.Book.{crosses, with_waiting}
use Rattle.qs_world_lawful.specs.Waits.{op_in, standing_ops}
use Rattle.qs_world_lawful.proofs.Apart.{Apart}
use Rattle.qs_world_lawful.proofs.EntryTurns.{begins}
use Rattle.qs_world_lawful.proofs.Keys.{KeyApart, request_exact, request_itself, same_key_or}
use Rattle.qs_world_lawful.proofs.Turning.{Turned, stood}
use Rattle.qs_world_lawful.proofs.Within.{map_last, within_both, within_right}
use Rattle.qs_world_runs.proofs.RequestsLeft.{LeavesRequests, SameRequests, gone, requests_left}

abbrev pub Ops : Type 0
Ops = Tid → ServerNo → ℕ → List Op

-- what stands at a server of b, of the requests from a under a number
abbrev pub standing : ℕ → ℕ → TransactionValue → ServerNo → ℕ → List Op
standing a b tx server number = standing_ops tx (way_between a b number) (record { 0 = b }) server

-- the same requests stand
pub standing_as : (a b : ℕ) (tx later : TransactionValue) (server : ServerNo) (number : ℕ) → requests_at later (way_between a b number) ≡ requests_at tx (way_between a b number) → standing a b later server number ≡ standing a b tx server number
standing_as a b tx later server number same = ap (λ (rs : List Request). map op_in (filter (is_standing (at_server (record { 0 = b }) server)) rs)) same

-- ---- one transaction is changed

pub record Change (tid : Tid) (f : TransactionValue → TransactionValue) (old new : BookValue) : Type 0 where
  pub transactions : new.transactions ≡ changed_value (is_at (tid_cmp tid)) f old.transactions

module _ (tid : Tid) (f : TransactionValue → TransactionValue) (old new : BookValue) (c : Change tid f old new) where
  found_as : (t : Tid) → find_transaction new t ≡ lookup (is_at (tid_cmp t)) (changed_value (is_at (tid_cmp tid)) f old.transactions)
  found_as t = ap (λ (es : List (Tid × TransactionValue)). lookup (is_at (tid_cmp t)) es) c.transactions

  found_own : (o : Option TransactionValue) → find_transaction old tid ≡ o → (later : TransactionValue) → find_transaction new tid ≡ Some later → (tx : TransactionValue) × (find_transaction old tid ≡ Some tx) × (later ≡ f tx)
  found_own None was later is = absurd (cc (sym (found_as tid ∙ changed_none (is_at (tid_cmp tid)) f old.transactions was) ∙ is))
  found_own (Some tx) was later is = (tx, was, some_same (sym is ∙ (found_as tid ∙ lookup_changed (is_at (tid_cmp tid)) f old.transactions tx was)))

  found_apart : (t : Tid) → Apart tid t → find_transaction new t ≡ find_transaction old t
  found_apart t far = found_as t ∙ changed_apart (is_at (tid_cmp tid)) (is_at (tid_cmp t)) far.keys f old.transactions

  none_changed : (t : Tid) → find_transaction new t ≡ None → find_transaction old t ≡ None
  none_changed t none = by (same_or_apart tid t)
    where
      own : (o : Option TransactionValue) → find_transaction old tid ≡ o → find_transaction new tid ≡ None → find_transaction old tid ≡ None
      own None was is = was
      own (Some tx) was is = absurd (cc (sym (found_as tid ∙ lookup_changed (is_at (tid_cmp tid)) f old.transactions tx was) ∙ is))

      by : (tid ≡ t) ⊎ Apart tid t → find_transaction old t ≡ None
      by (inl same) = subst (λ (u : Tid). find_transaction old u ≡ None) same (own (find_transaction old tid) refl (subst (λ (u : Tid). find_transaction new u ≡ None) (sym same) none))
      by (inr far) = sym (found_apart t far) ∙ none

  -- of its own transaction what is on the way stands after the change, and of the others what stood
  pub ops_changed : (a b : ℕ) (ds es : Ops) → ((tx : TransactionValue) (server : ServerNo) (number : ℕ) → find_transaction old tid ≡ Some tx → IsWithin (ds tid server number) (standing a b tx server number) → IsWithin (es tid server number) (standing a b (f tx) server number))
      → ((t : Tid) (server : ServerNo) (number : ℕ) → Apart tid t → es t server number ≡ ds t server number) → ((t : Tid) (server : ServerNo) (number : ℕ) → find_transaction old t ≡ None → ds t server number ≡ [] → es t server number ≡ [])
      → HoldsOps old a b ds → HoldsOps new a b es
  ops_changed a b ds es own others none ops = record {
    stands = λ t later server number found. by t later server number found (same_or_apart tid t);
    none = λ t server number is. none t server number (none_changed t is) (ops.none t server number (none_changed t is));
  }
    where
      by : (t : Tid) (later : TransactionValue) (server : ServerNo) (number : ℕ) → find_transaction new t ≡ Some later → (tid ≡ t) ⊎ Apart tid t → IsWithin (es t server number) (standing a b later server number)
      by t later server number found (inl same) =
          let p = found_own (find_transaction old tid) refl later (subst (λ (u : Tid). find_transaction new u ≡ Some later) (sym same) found) in
          subst (λ (u : Tid). IsWithin (es u server number) (standing a b later server number)) same
          (subst (λ (x : TransactionValue). IsWithin (es tid server number) (standing a b x server number)) (sym p.2) (own p.0 server number p.1 (ops.stands tid p.0 server number p.1)))
      by t later server number found (inr far) = subst (λ (xs : List Op). IsWithin xs (standing a b later server number)) (sym (others t server number far)) (ops.stands t later server number (sym (found_apart t far) ∙ found))

-- ---- an entry that leaves requests

pub ops_left : (a b n stamp : ℕ) (ds : Ops) (book : BookValue) (act : Act) → LeavesRequests act → HoldsOps book a b ds → HoldsOps (effect book (entry_of n stamp act)) a b ds
ops_left a b n stamp ds book act leaves ops = record {
  stands = λ tid later server number found.
      let p = stood SameRequests book (effect book (entry_of n stamp act)) turned tid later found in
      subst (λ (xs : List Op). IsWithin (ds tid server number) xs) (sym (standing_as a b p.0 later server number (ap (λ es. requests_in es (way_between a b number)) p.2))) (ops.stands tid p.0 server number p.1);
  none = λ tid server number is. ops.none tid server number (gone SameRequests book (effect book (entry_of n stamp act)) turned tid is);
}
  where
    turned : Turned SameRequests book (effect book (entry_of n stamp act))
    turned = let t = requests_left stamp n book act leaves in record { none = t.none; goes = t.goes }

-- ---- one that begins a transaction

pub ops_begun : (a b n stamp : ℕ) (ds : Ops) (book : BookValue) (tid : Tid) (label : List ℕ) (client : ClientNo) → LastsWell book → broken book (entry_of n stamp (acts.Begin tid label client)) ≡ None
    → HoldsOps book a b ds → HoldsOps (effect book (entry_of n stamp (acts.Begin tid label client))) a b ds
ops_begun a b n stamp ds book tid label client w fine ops = record {
  stands = λ t later server number found. by t later server number found (same_or_apart it.tid t);
  none = λ t server number is. ops.none t server number (none t is (same_or_apart it.tid t));
}
  where
    it : Begins book (entry_of n stamp (acts.Begin tid label client))
    it = begins book (entry_of n stamp (acts.Begin tid label client)) w.inv fine tid label client refl

    by : (t : Tid) (later : TransactionValue) (server : ServerNo) (number : ℕ) → find_transaction (effect book (entry_of n stamp (acts.Begin tid label client))) t ≡ Some later → (it.tid ≡ t) ⊎ Apart it.tid t → IsWithin (ds t server number) (standing a b later server number)
    by t later server number found (inl same) = subst (λ (xs : List Op). IsWithin xs (standing a b later server number)) (sym (ops.none t server number (subst (λ (u : Tid). find_transaction book u ≡ None) same it.new))) tt
    by t later server number found (inr far) = ops.stands t later server number (sym (it.others t far) ∙ found)

    none : (t : Tid) → find_transaction (effect book (entry_of n stamp (acts.Begin tid label client))) t ≡ None → (it.tid ≡ t) ⊎ Apart it.tid t → find_transaction book t ≡ None
    none t is (inl same) = subst (λ (u : Tid). find_transaction book u ≡ None) same it.new
    none t is (inr far) = sym (it.others t far) ∙ is

-- ---- one that issues a request

-- what is on the way then, to node b
abbrev pub asks_one : ℕ → Tid → Member → ℕ → Op → Ops
asks_one b tid member number op t server k = if same_tid t tid && (((member.node.0 == b) && (member.server.0 == server.0)) && (number == k)) then op ∷ [] else []

module _ (n stamp : ℕ) (book : BookValue) (tid : Tid) (issuer member : Member) (number : ℕ) (op : Op) where
  abbrev at : RequestNo
  at = record { link = link_to n member; number = number }

  abbrev request : Request
  request = record { issuer = issuer; member = member; op = op; inc = inc_at book (record { 0 = n }); served = false }

  abbrev made : TransactionValue → TransactionValue
  made tx = issued at request (inc_at book member.node) book.place tx

  abbrev now : BookValue
  now = effect book (entry_of n stamp (acts.Issue tid issuer member number op))

  change : Change tid made book now
  change = record {
    transactions = crossing_transactions (crosses (find_transaction book tid) at member) tid member (with_waiting tid issuer member (with_transaction tid made book))
        ∙ waiting_transactions tid issuer member (with_transaction tid made book);
  }

  requests_own : (tx : TransactionValue) → requests_at (made tx) at ≡ requests_at tx at ++ request ∷ []
  requests_own tx = ap (λ (o : Option (List Request)). unwrap_or o []) (lookup_put request_cmp at (requests_at tx at ++ request ∷ []) (request_itself at) tx.requests)

  requests_far : (tx : TransactionValue) (key : RequestNo) → KeyApart request_cmp request_exact request_itself at key → requests_at (made tx) key ≡ requests_at tx key
  requests_far tx key far = ap (λ (o : Option (List Request)). unwrap_or o []) (lookup_put_apart request_cmp at (requests_at tx at ++ request ∷ []) (request_exact at) (is_at (request_cmp key)) far.at tx.requests)

  -- on a way from another node nothing is new
  pub ops_issued_far : (a b : ℕ) (ds : Ops) → (a == n) ≡ false → HoldsOps book a b ds → HoldsOps now a b ds
  ops_issued_far a b ds far ops = ops_changed tid made book now change a b ds ds
      (λ tx server k found w. subst (λ (xs : List Op). IsWithin (ds tid server k) xs) (sym (standing_as a b tx (made tx) server k (requests_far tx (way_between a b k) (key_far k (same_key_or request_cmp request_exact request_itself at (way_between a b k)))))) w)
      (λ t server k apart. refl) (λ t server k none is. is) ops
    where
      key_far : (k : ℕ) → (at ≡ way_between a b k) ⊎ KeyApart request_cmp request_exact request_itself at (way_between a b k) → KeyApart request_cmp request_exact request_itself at (way_between a b k)
      key_far k (inl same) = absurd (cc (sym far ∙ (ap (λ (i : ℕ). i == n) (sym (ap (λ (r : RequestNo). r.link.from.0) same)) ∙ eqb-self n)))
      key_far k (inr apart) = apart

  module _ (b : ℕ) (tx : TransactionValue) (server : ServerNo) (k : ℕ) where
    abbrev it : Member
    it = at_server (record { 0 = b }) server

    picked : List Request → List Op
    picked rs = map op_in (filter (is_standing it) rs)

    -- the new one stands behind the others, or at another member
    more_own : at ≡ way_between n b k → (c : Bool) → is_standing it request ≡ c → standing n b (made tx) server k ≡ (if c then standing n b tx server k ++ op ∷ [] else standing n b tx server k)
    unfolding picked
    more_own same true stands = ap picked (subst (λ (r : RequestNo). requests_at (made tx) r ≡ requests_at tx r ++ request ∷ []) same (requests_own tx))
        ∙ (ap (map op_in) (filter_last (is_standing it) (requests_at tx (way_between n b k)) request stands) ∙ map_last op_in (filter (is_standing it) (requests_at tx (way_between n b k))) request)
    more_own same false stands = ap picked (subst (λ (r : RequestNo). requests_at (made tx) r ≡ requests_at tx r ++ request ∷ []) same (requests_own tx))
        ∙ ap (map op_in) (filter_more (is_standing it) (requests_at tx (way_between n b k)) request stands)

    within_more : (xs : List Op) → IsWithin xs (standing n b tx server k) → IsWithin xs (standing n b (made tx) server k)
    within_more xs w = by (same_key_or request_cmp request_exact request_itself at (way_between n b k))
      where
        either : (c : Bool) → IsWithin xs (if c then standing n b tx server k ++ op ∷ [] else standing n b tx server k)
        either true = within_right xs (standing n b tx server k) op w
        either false = w

        by : (at ≡ way_between n b k) ⊎ KeyApart request_cmp request_exact request_itself at (way_between n b k) → IsWithin xs (standing n b (made tx) server k)
        by (inl same) = subst (λ (ys : List Op). IsWithin xs ys) (sym (more_own same (is_standing it request) refl)) (either (is_standing it request))
        by (inr apart) = subst (λ (ys : List Op). IsWithin xs ys) (sym (standing_as n b tx (made tx) server k (requests_far tx (way_between n b k) apart))) w

    within_own : (xs : List Op) → IsWithin xs (standing n b tx server k) → IsWithin (xs ++ asks_one b tid member number op tid server k) (standing n b (made tx) server k)
    within_own xs w = by (member.node.0 == b) refl (member.server.0 == server.0) refl (number == k) refl
      where
        nothing : asks_one b tid member number op tid server k ≡ [] → IsWithin (xs ++ asks_one b tid member number op tid server k) (standing n b (made tx) server k)
        nothing none = subst (λ (ys : List Op). IsWithin (xs ++ ys) (standing n b (made tx) server k)) (sym none) (subst (λ (ys : List Op). IsWithin ys (standing n b (made tx) server k)) (sym (append-nil xs)) (within_more xs w))

        off : (p q : Bool) → p ≡ false → (q && p) ≡ false
        off p true is = is
        off p false is = refl

        by : (x : Bool) → (member.node.0 == b) ≡ x → (y : Bool) → (member.server.0 == server.0) ≡ y → (z : Bool) → (number == k) ≡ z → IsWithin (xs ++ asks_one b tid member number op tid server k) (standing n b (made tx) server k)
        by true node true at_it true same =
            subst (λ (ys : List Op). IsWithin (xs ++ ys) (standing n b (made tx) server k)) (sym one) (subst (λ (ys : List Op). IsWithin (xs ++ op ∷ []) ys) (sym (more_own key true stands)) (within_both xs (standing n b tx server k) op w))
          where
            one : asks_one b tid member number op tid server k ≡ op ∷ []
            one = rw (same_tid-self tid, node, at_it, same) refl

            key : at ≡ way_between n b k
            key = ap (λ (i : ℕ). record { link = record { from = record { 0 = n }; to = record { 0 = i } }; number = number }) (eqb-true member.node.0 b node) ∙ ap (λ (j : ℕ). way_between n b j) (eqb-true number k same)

            stands : is_standing it request ≡ true
            stands = rw (node, at_it) refl
        by false node y at_it z same = nothing (rw node (rw (off false (same_tid tid tid) refl) refl))
        by true node false at_it z same = nothing (rw (node, at_it) (rw (off false (same_tid tid tid) refl) refl))
        by true node true at_it false same = nothing (rw (node, at_it, same) (rw (off false (same_tid tid tid) refl) refl))

  -- on a way from its node it stands, whether it was sent or not
  pub ops_issued : (b : ℕ) (ds : Ops) → HoldsOps book n b ds → HoldsOps now n b ds
  ops_issued b ds ops = ops_changed tid made book now change n b ds ds (λ tx server k found w. within_more b tx server k (ds tid server k) w) (λ t server k apart. refl) (λ t server k none is. is) ops

  pub ops_asked : (b : ℕ) (ds : Ops) → (tx : TransactionValue) → find_transaction book tid ≡ Some tx → HoldsOps book n b ds → HoldsOps now n b (λ t server k. ds t server k ++ asks_one b tid member number op t server k)
  ops_asked b ds tx there ops = ops_changed tid made book now change n b ds (λ t server k. ds t server k ++ asks_one b tid member number op t server k)
      (λ tx server k found w. within_own b tx server k (ds tid server k) w)
      (λ t server k apart. ap (λ (ys : List Op). ds t server k ++ ys) (elsewhere t server k apart) ∙ append-nil (ds t server k))
      (λ t server k none is. ap (λ (ys : List Op). ys ++ asks_one b tid member number op t server k) is ∙ unknown t server k none (same_or_apart tid t)) ops
    where
      elsewhere : (t : Tid) (server : ServerNo) (k : ℕ) → Apart tid t → asks_one b tid member number op t server k ≡ []
      elsewhere t server k apart = rw apart.of refl

      unknown : (t : Tid) (server : ServerNo) (k : ℕ) → find_transaction book t ≡ None → (tid ≡ t) ⊎ Apart tid t → asks_one b tid member number op t server k ≡ []
      unknown t server k none (inl same) = absurd (cc (sym there ∙ (ap (find_transaction book) same ∙ none)))
      unknown t server k none (inr apart) = elsewhere t server k apart
