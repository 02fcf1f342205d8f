-- What an issue, a count and an answer do to what is open towards a node, and to the last incarnation in which it was.
use Rattle.qs_book_laws.proofs.Words.{◌≡◌, ℕ, ◌+◌, ◌==◌, ◌&&◌, ◌||◌, Bool, true, false, List, [], ◌∷◌, Option, Some, None, refl, sym, ap, subst, ◌∙◌, if◌then◌else◌, arith, nat_tests, is_some, nat_lt, cond, list_any, lookup, set_value, is_at, insert_entry, nat_cmp, match_ordering, Ordering, Less, Equal, Greater, exact_unsigned, exact_pairs, NodeNo, TransactionValue, changed_value, peer_of, node_cmp, link_cmp, heard, heard_by, is_by_client, is_by_files, is_open_link, is_open_to, sent_more, sent_on}
use Rattle.qs_book_laws.proofs.Words.{issued, counted, with_counted, Link, Peer, Request, RequestNo, Sent, and_last, or_left, or_right}
use Rattle.qs_book_machine.specs.Transaction.{reached_by, reached, with_reached}
use Rattle.qs_book_laws.proofs.Takes.{some_same}
use Rattle.qs_book_laws.proofs.Unanswered.{put_peer, change_peer}
use Rattle.qs_base.proofs.TidOrder.{or-true}

-- ---- links

pub link_exact : (l m : Link) → is_at (link_cmp l) m ≡ true → l ≡ m
link_exact l m = by (link_cmp l m) refl
  where
    made : ℕ × ℕ → Link
    made p = record { from = record { 0 = p.0 }; to = record { 0 = p.1 } }

    by : (o : Ordering) → link_cmp l m ≡ o → is_at (link_cmp l) m ≡ true → l ≡ m
    by Less is h = absurd (cc (rw is at h))
    by Equal is h = ap made (exact_pairs nat_cmp nat_cmp exact_unsigned exact_unsigned (l.from.0, l.to.0) (m.from.0, m.to.0) is)
    by Greater is h = absurd (cc (rw is at h))

either_of : (a b c d : Bool) → (a ≡ true → c ≡ true) → (b ≡ true → d ≡ true) → (a || b) ≡ true → (c || d) ≡ true
either_of true b c d p q h = or_left c d (p refl)
either_of false b c d p q h = or_right c d (q h)

module _ (p : Link × Sent → Bool) where
  any_put : (es : List (Link × Sent)) (k : Link) (v : Sent) → p (k, v) ≡ true → list_any p (insert_entry link_cmp es k v) ≡ true
  any_put [] k v h = or_left (p (k, v)) false h
  any_put (e ∷ es) k v h = by (link_cmp k e.0) refl (any_put es k v h)
    where
      by : (o : Ordering) → link_cmp k e.0 ≡ o → list_any p (insert_entry link_cmp es k v) ≡ true → list_any p (match_ordering o ((k, v) ∷ e ∷ es) ((e.0, v) ∷ es) (e ∷ insert_entry link_cmp es k v)) ≡ true
      by Less is more = or_left (p (k, v)) (list_any p (e ∷ es)) h
      by Equal is more = or_left (p (e.0, v)) (list_any p es) (subst (λ (l : Link). p (l, v) ≡ true) (link_exact k e.0 (rw is refl)) h)
      by Greater is more = or_right (p e) (list_any p (insert_entry link_cmp es k v)) more

  any_put_off : (es : List (Link × Sent)) (k : Link) (v : Sent) → ((w : Sent) → p (k, w) ≡ false) → list_any p (insert_entry link_cmp es k v) ≡ list_any p es
  any_put_off [] k v off = ap (λ (b : Bool). b || false) (off v)
  any_put_off (e ∷ es) k v off = by (link_cmp k e.0) refl (any_put_off es k v off)
    where
      by : (o : Ordering) → link_cmp k e.0 ≡ o → list_any p (insert_entry link_cmp es k v) ≡ list_any p es → list_any p (match_ordering o ((k, v) ∷ e ∷ es) ((e.0, v) ∷ es) (e ∷ insert_entry link_cmp es k v)) ≡ list_any p (e ∷ es)
      by Less is more = ap (λ (b : Bool). b || list_any p (e ∷ es)) (off v)
      by Equal is more =
          let same : k ≡ e.0 = link_exact k e.0 (rw is refl) in
          ap (λ (b : Bool). b || list_any p es) (subst (λ (l : Link). p (l, v) ≡ p (l, e.1)) same (off v ∙ sym (off e.1)))
      by Greater is more = ap (λ (b : Bool). p e || b) more

  any_set : (test : Link → Bool) (es : List (Link × Sent)) (v w : Sent) → lookup test es ≡ Some v → ((k : Link) → test k ≡ true → p (k, w) ≡ true → p (k, v) ≡ true) → list_any p (set_value test es w) ≡ true → list_any p es ≡ true
  any_set test [] v w found less h = absurd (cc h)
  any_set test (e ∷ es) v w found less h = by (test e.0) refl found h (any_set test es v w)
    where
      by : (b : Bool) → test e.0 ≡ b → cond b (Some e.1) (lookup test es) ≡ Some v → list_any p (cond b ((e.0, w) ∷ es) (e ∷ set_value test es w)) ≡ true
          → (lookup test es ≡ Some v → ((k : Link) → test k ≡ true → p (k, w) ≡ true → p (k, v) ≡ true) → list_any p (set_value test es w) ≡ true → list_any p es ≡ true) → (p e || list_any p es) ≡ true
      by true is at g more = either_of (p (e.0, w)) (list_any p es) (p e) (list_any p es) (λ k. subst (λ (x : Sent). p (e.0, x) ≡ true) (sym (some_same e.1 v at)) (less e.0 is k)) (λ k. k) g
      by false is at g more = either_of (p e) (list_any p (set_value test es w)) (p e) (list_any p es) (λ k. k) (λ k. more at less k) g

  any_changed : (test : Link → Bool) (f : Sent → Sent) (es : List (Link × Sent)) → ((k : Link) (v : Sent) → test k ≡ true → p (k, f v) ≡ true → p (k, v) ≡ true) → list_any p (changed_value test f es) ≡ true → list_any p es ≡ true
  any_changed test f es less = by (lookup test es) refl
    where
      by : (o : Option Sent) → lookup test es ≡ o → list_any p (elim o [ None ↦ es | Some v ↦ set_value test es (f v) ]) ≡ true → list_any p es ≡ true
      by None is h = h
      by (Some v) is h = any_set test es v (f v) is (λ k at. less k v at) h

  set_off : (test : Link → Bool) (es : List (Link × Sent)) (w : Sent) → ((k : Link) (v : Sent) → test k ≡ true → p (k, v) ≡ false) → list_any p (set_value test es w) ≡ list_any p es
  set_off test [] w off = refl
  set_off test (e ∷ es) w off = by (test e.0) refl (set_off test es w off)
    where
      by : (b : Bool) → test e.0 ≡ b → list_any p (set_value test es w) ≡ list_any p es → list_any p (cond b ((e.0, w) ∷ es) (e ∷ set_value test es w)) ≡ (p e || list_any p es)
      by true is more = ap (λ (b : Bool). b || list_any p es) (off e.0 w is ∙ sym (off e.0 e.1 is))
      by false is more = ap (λ (b : Bool). p e || b) more

  changed_off : (test : Link → Bool) (f : Sent → Sent) (es : List (Link × Sent)) → ((k : Link) (v : Sent) → test k ≡ true → p (k, v) ≡ false) → list_any p (changed_value test f es) ≡ list_any p es
  changed_off test f es off = by (lookup test es)
    where
      by : (o : Option Sent) → list_any p (elim o [ None ↦ es | Some v ↦ set_value test es (f v) ]) ≡ list_any p es
      by None = refl
      by (Some v) = set_off test es (f v) off

-- ---- towards a node

module _ (node : NodeNo) where
  abbrev links : TransactionValue → Bool
  links tx = list_any (is_open_link node) tx.sent

  abbrev pub has_peer : TransactionValue → Bool
  has_peer tx = is_some (lookup (is_at (node_cmp node)) tx.peers)

  positive : (n : ℕ) → nat_lt 0 (n + 1) ≡ true
  positive n = grind (arith, nat_tests)

  -- a request of files, or of a client, is open as it goes there
  files_sent : (request : Request) (o : Option Sent) → is_by_files request ≡ true → (sent_more request o).by_files ≡ true
  files_sent request None h = h
  files_sent request (Some sent) h = by (sent.inc == request.inc)
    where
      by : (b : Bool) → (if b then record sent { count = sent.count + 1; by_files = sent.by_files || is_by_files request } else record {
        inc = request.inc;
        count = 1;
        counted = 0;
        lost = sent.lost || nat_lt sent.counted sent.count;
        by_files = sent.by_files || is_by_files request;
      }).by_files ≡ true
      by true = or_right sent.by_files (is_by_files request) h
      by false = or_right sent.by_files (is_by_files request) h

  pub issued_peer : (at : RequestNo) (request : Request) (inc place : ℕ) (tx : TransactionValue) → peer_of (issued at request inc place tx) node ≡ (if at.link.to.0 == node.0 then reached_by request inc (peer_of tx at.link.to) else peer_of tx node)
  issued_peer at request inc place tx = put_peer node tx.peers at.link.to (reached_by request inc (peer_of tx at.link.to))

  waits_more : (request : Request) (inc : ℕ) (peer : Peer) → is_by_client request ≡ true → nat_lt 0 (reached_by request inc peer).waiting ≡ true
  waits_more request inc peer h = ap (λ (b : Bool). nat_lt 0 (if b then peer.waiting + 1 else peer.waiting)) h ∙ positive peer.waiting

  pub issued_opens : (at : RequestNo) (request : Request) (inc place : ℕ) (tx : TransactionValue) → (at.link.to.0 == node.0) ≡ true → (is_by_files request || is_by_client request) ≡ true → is_open_to (issued at request inc place tx) node ≡ true
  issued_opens at request inc place tx near who = by (is_by_files request) refl who
    where
      new : TransactionValue
      new = issued at request inc place tx

      by : (b : Bool) → is_by_files request ≡ b → (b || is_by_client request) ≡ true → is_open_to new node ≡ true
      by true files h =
          or_right (nat_lt 0 (peer_of new node).waiting) (links new)
          (any_put (is_open_link node) tx.sent at.link (sent_more request (sent_on tx at.link))
          (ap (λ (b : Bool). (at.link.to.0 == node.0) && ((sent_more request (sent_on tx at.link)).lost || (b || nat_lt (sent_more request (sent_on tx at.link)).counted (sent_more request (sent_on tx at.link)).count))) (files_sent request (sent_on tx at.link) files)
          ∙ (ap (λ (b : Bool). b && ((sent_more request (sent_on tx at.link)).lost || true)) near ∙ or-true (sent_more request (sent_on tx at.link)).lost)))
      by false files h =
          or_left (nat_lt 0 (peer_of new node).waiting) (links new)
          (ap (λ (q : Peer). nat_lt 0 q.waiting) (issued_peer at request inc place tx)
          ∙ (ap (λ (b : Bool). nat_lt 0 (if b then reached_by request inc (peer_of tx at.link.to) else peer_of tx node).waiting) near ∙ waits_more request inc (peer_of tx at.link.to) h))

  pub issued_apart : (at : RequestNo) (request : Request) (inc place : ℕ) (tx : TransactionValue) → (at.link.to.0 == node.0) ≡ false → is_open_to (issued at request inc place tx) node ≡ is_open_to tx node
  issued_apart at request inc place tx far =
      ap (λ (q : Peer). nat_lt 0 q.waiting || links (issued at request inc place tx)) (issued_peer at request inc place tx ∙ ap (λ (b : Bool). if b then reached_by request inc (peer_of tx at.link.to) else peer_of tx node) far)
      ∙ ap (λ (b : Bool). nat_lt 0 (peer_of tx node).waiting || b)
      (any_put_off (is_open_link node) tx.sent at.link (sent_more request (sent_on tx at.link)) (λ w. ap (λ (b : Bool). b && (w.lost || (w.by_files || nat_lt w.counted w.count))) far))

  -- ---- a count

  counted_less : (k : Link) (s : Sent) (inc upto : ℕ) → is_open_link node (k, with_counted inc upto s) ≡ true → is_open_link node (k, s) ≡ true
  counted_less k s inc upto = by ((s.inc == inc) && nat_lt s.counted upto) refl
    where
      rises : (a b c : ℕ) → nat_lt a b ≡ true → nat_lt b c ≡ true → nat_lt a c ≡ true
      rises a b c h g = grind (arith, nat_tests)

      both : (a b c : Bool) → (b ≡ true → c ≡ true) → (a && b) ≡ true → (a && c) ≡ true
      both true b c f h = f h
      both false b c f h = h

      by : (b : Bool) → ((s.inc == inc) && nat_lt s.counted upto) ≡ b → is_open_link node (k, if b then record s { counted = upto } else s) ≡ true → is_open_link node (k, s) ≡ true
      by false is h = h
      by true is h =
          both (k.to.0 == node.0) (s.lost || (s.by_files || nat_lt upto s.count)) (s.lost || (s.by_files || nat_lt s.counted s.count))
          (either_of s.lost (s.by_files || nat_lt upto s.count) s.lost (s.by_files || nat_lt s.counted s.count) (λ x. x)
          (either_of s.by_files (nat_lt upto s.count) s.by_files (nat_lt s.counted s.count) (λ x. x) (λ x. rises s.counted upto s.count (and_last (s.inc == inc) (nat_lt s.counted upto) is) x))) h

  pub counted_closes : (link : Link) (inc upto peer_inc : ℕ) (tx : TransactionValue) → (peer_of (counted link inc upto peer_inc tx) node).waiting ≡ (peer_of tx node).waiting → is_open_to (counted link inc upto peer_inc tx) node ≡ true → is_open_to tx node ≡ true
  counted_closes link inc upto peer_inc tx same h =
      either_of (nat_lt 0 (peer_of (counted link inc upto peer_inc tx) node).waiting) (links (counted link inc upto peer_inc tx)) (nat_lt 0 (peer_of tx node).waiting) (links tx)
      (λ x. ap (λ (n : ℕ). nat_lt 0 n) (sym same) ∙ x)
      (any_changed (is_open_link node) (is_at (link_cmp link)) (with_counted inc upto) tx.sent (λ k v at. counted_less k v inc upto)) h

  pub counted_peer : (link : Link) (inc upto peer_inc : ℕ) (tx : TransactionValue) → peer_of (counted link inc upto peer_inc tx) node ≡ (if (link.to.0 == node.0) && has_peer tx then with_reached (reached tx link.to peer_inc) (peer_of tx node) else peer_of tx node)
  counted_peer link inc upto peer_inc tx = change_peer node tx.peers link.to (with_reached (reached tx link.to peer_inc))

  pub counted_apart : (link : Link) (inc upto peer_inc : ℕ) (tx : TransactionValue) → (link.to.0 == node.0) ≡ false → is_open_to (counted link inc upto peer_inc tx) node ≡ is_open_to tx node
  counted_apart link inc upto peer_inc tx far =
      ap (λ (q : Peer). nat_lt 0 q.waiting || links (counted link inc upto peer_inc tx)) (counted_peer link inc upto peer_inc tx ∙ ap (λ (b : Bool). if b && has_peer tx then with_reached (reached tx link.to peer_inc) (peer_of tx node) else peer_of tx node) far)
      ∙ ap (λ (b : Bool). nat_lt 0 (peer_of tx node).waiting || b)
      (changed_off (is_open_link node) (is_at (link_cmp link)) (with_counted inc upto) tx.sent
      (λ k v at. ap (λ (b : Bool). b && (v.lost || (v.by_files || nat_lt v.counted v.count))) (subst (λ (l : Link). (l.to.0 == node.0) ≡ false) (link_exact link k at) far)))

  -- ---- an answer

  pub heard_peer : (to : NodeNo) (inc : ℕ) (tx : TransactionValue) → peer_of (heard to inc tx) node ≡ (if (to.0 == node.0) && has_peer tx then heard_by inc (peer_of tx node) else peer_of tx node)
  heard_peer to inc tx = change_peer node tx.peers to (heard_by inc)

  pub heard_links : (to : NodeNo) (inc : ℕ) (tx : TransactionValue) → links (heard to inc tx) ≡ links tx
  heard_links to inc tx = refl
