-- A serve of a member's own: what it has on record stays, and it served one more in this incarnation.
use Rattle.qs_book_laws.proofs.Words.{◌≡◌, ℕ, ◌+◌, ◌==◌, Bool, true, false, Option, Some, None, refl, sym, ap, subst, ◌∙◌, unwrap_or, slice_get, is_some, option_map, lookup, is_at, tid_cmp, Member, NodeNo, Tid, same_tid-true, same_member-true, Reply, class_of, Act, Entry, TransactionValue, served_in, serving_part, Part, RequestNo, BookValue, find_transaction, inc_at, is_done, broken_serve, broken_act, broken, effect_act, effect, NodeValue}
use Rattle.qs_book_journal.specs.declared.entry.Act.TheVariants as acts
use Rattle.qs_book_laws.proofs.Counts.{Count, counts, count_of, count_in, no_count, served_count, served_later}
use Rattle.qs_book_laws.proofs.Covers.{Mark, mark_in, mark_of, SameMark}
use Rattle.qs_book_laws.proofs.Ends.{lawful_node}
use Rattle.qs_book_laws.proofs.Holding.{left_of, right_of, serve_here}
use Rattle.qs_book_laws.proofs.Leaves.{serves_on, serve_mark}
use Rattle.qs_book_laws.proofs.Maps.{lookup_changed}
use Rattle.qs_book_laws.proofs.Shares.{number}
use Rattle.qs_book_laws.proofs.Takes.{some_same}

-- one more was served
abbrev pub one_more : Count → Count
one_more k = record { served = k.served + 1; covered = k.covered }

-- the incarnation of the node
pub inc_marked : (tid : Tid) (member : Member) (book : BookValue) (node : NodeValue) (mark : Mark) → slice_get book.nodes member.node.0 ≡ Some node → mark_of book tid member ≡ Some mark → mark ≡ mark_in tid member.server.0 node
inc_marked tid member book node mark at marked = some_same mark (mark_in tid member.server.0 node) (sym marked ∙ ap (λ (o : Option NodeValue). option_map (mark_in tid member.server.0) o) at)

pub inc_there : (book : BookValue) (here : ℕ) (node : NodeValue) → slice_get book.nodes here ≡ Some node → inc_at book (record { 0 = here }) ≡ node.inc
inc_there book here node at = ap inc_in at
  where
    inc_in : Option NodeValue → ℕ
    inc_in o = elim o [ None ↦ 0 | Some state ↦ state.inc ]

module _ (tid : Tid) (member : Member) where
  pub record Serves (old new : BookValue) : Type 0 where
    pub mark : SameMark tid member old new
    pub here : (mark : Mark) → mark_of old tid member ≡ Some mark → count_of new tid member mark.inc ≡ one_more (count_of old tid member mark.inc)
    pub others : (mark : Mark) → mark_of old tid member ≡ Some mark → (k : ℕ) → (k == mark.inc) ≡ false → count_of new tid member k ≡ count_of old tid member k
    pub known : is_some (find_transaction old tid) ≡ true

  has_transaction : (book : BookValue) (here : ℕ) (node : NodeValue) (o : Option TransactionValue) (from number : ℕ) (reply : Reply) → broken_serve here node book.transactions tid o member from number reply ≡ None → (tx : TransactionValue) × (o ≡ Some tx)
  has_transaction book here node None from number reply h = absurd (cc h)
  has_transaction book here node (Some tx) from number reply h = (tx, refl)

  -- the counts of the transaction that is found
  pub count_for : (book : BookValue) (tx : TransactionValue) → find_transaction book tid ≡ Some tx → (k : ℕ) → count_of book tid member k ≡ count_in member k tx
  count_for book tx is k = ap (λ (o : Option TransactionValue). unwrap_or (option_map (count_in member k) o) no_count) is

  serving : (b : Bool) (n stamp : ℕ) (done : Bool) → n ≡ number b → (part : Part) → counts (serving_part (class_of n) stamp done part) ≡ record { served = part.served + 1; covered = part.covered }
  serving true n stamp done k part = subst (λ (m : ℕ). counts (serving_part (class_of m) stamp done part) ≡ record { served = part.served + 1; covered = part.covered }) (sym k) refl
  serving false n stamp done k part = subst (λ (m : ℕ). counts (serving_part (class_of m) stamp done part) ≡ record { served = part.served + 1; covered = part.covered }) (sym k) refl

  serves_own : (b : Bool) → member.server.0 ≡ number b → (book : BookValue) (entry : Entry) (from : NodeNo) (n_th : ℕ) (reply : Reply) → broken book entry ≡ None → entry.act ≡ acts.Serve tid member from n_th reply → Serves book (effect book entry)
  serves_own b is book entry from n_th reply h act_is =
      let at : (node : NodeValue) × (slice_get book.nodes entry.node.0 ≡ Some node) × (broken_act book entry.stamp entry.node.0 node (acts.Serve tid member from n_th reply) ≡ None) =
      lawful_node book entry (acts.Serve tid member from n_th reply) act_is (λ node. refl) h in
      let near : member.node.0 ≡ entry.node.0 = serve_here book entry.node.0 at.0 tid (find_transaction book tid) member from.0 n_th reply at.2 in
      let there : slice_get book.nodes member.node.0 ≡ Some at.0 = ap (slice_get book.nodes) near ∙ at.1 in
      let has : (tx : TransactionValue) × (find_transaction book tid ≡ Some tx) = has_transaction book entry.node.0 at.0 (find_transaction book tid) from.0 n_th reply at.2 in
      let found : find_transaction (effect book entry) tid ≡ Some (served_in no member at.0.inc entry.stamp (is_done reply) has.0) =
      ap (λ (a : Act). lookup (is_at (tid_cmp tid)) (effect_act entry.stamp entry.node.0 a book).transactions) act_is
      ∙ (lookup_changed (is_at (tid_cmp tid)) (served_in no member (inc_at book (record { 0 = entry.node.0 })) entry.stamp (is_done reply)) book.transactions has.0 has.1
      ∙ ap (λ (inc : ℕ). Some (served_in no member inc entry.stamp (is_done reply) has.0)) (inc_there book entry.node.0 at.0 at.1)) in
      let inc_is : (mark : Mark) → mark_of book tid member ≡ Some mark → mark.inc ≡ at.0.inc = λ mark marked. ap (λ (m : Mark). m.inc) (inc_marked tid member book at.0 mark there marked) in
      record {
        mark = subst (λ (a : Act). SameMark tid member book (effect_act entry.stamp entry.node.0 a book)) (sym act_is) (serve_mark tid member book entry.node.0 tid member from n_th entry.stamp reply);
        here = λ mark marked.
            subst (λ (k : ℕ). count_of (effect book entry) tid member k ≡ one_more (count_of book tid member k)) (sym (inc_is mark marked))
            (count_for (effect book entry) _ found at.0.inc
            ∙ (served_count member at.0.inc entry.stamp no (is_done reply) has.0 (serving b member.server.0 entry.stamp (is_done reply) is)
            ∙ ap one_more (sym (count_for book has.0 has.1 at.0.inc))));
        others = λ mark marked k far.
            count_for (effect book entry) _ found k
            ∙ (served_later member k at.0.inc entry.stamp no (is_done reply) has.0 (subst (λ (n : ℕ). (k == n) ≡ false) (inc_is mark marked) far)
            ∙ sym (count_for book has.0 has.1 k));
        known = ap (λ (o : Option TransactionValue). is_some o) has.1;
      }
    where
      no : RequestNo
      no = record { link = record { from = from; to = member.node }; number = n_th }

  pub step_serves : (b : Bool) → member.server.0 ≡ number b → (book : BookValue) (entry : Entry) → broken book entry ≡ None → serves_on tid member entry.act ≡ true → Serves book (effect book entry)
  step_serves b is book entry h serves = of entry.act refl serves
    where
      of : (act : Act) → entry.act ≡ act → serves_on tid member act ≡ true → Serves book (effect book entry)
      of (acts.Serve t other from n_th reply) act_is mine =
          let e : t ≡ tid = same_tid-true t tid (left_of _ _ mine) in
          let f : other ≡ member = same_member-true other member (right_of _ _ mine) in
          serves_own b is book entry from n_th reply h
          (act_is ∙ (ap (λ (x : Tid). acts.Serve x other from n_th reply) e ∙ ap (λ (x : Member). acts.Serve tid x from n_th reply) f))
      of act act_is mine = absurd (cc mine)
