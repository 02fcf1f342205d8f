-- While a member does not vote again, its record is all that it has pending, unless it served something since.
use Rattle.qs_book_laws.proofs.Words.{◌≡◌, ℕ, Bool, true, false, List, ◌==◌, ◌&&◌, Option, Some, None, refl, sym, ap, subst, ◌∙◌, unwrap_or, slice_get, option_map, lookup, is_at, tid_cmp, same_tid, same_member, Member, Tid, same_tid-self, TransactionValue, BookValue, changed_at, with_transaction, vote_node, NodeValue, record_of, voter, voter_cmp, without_record, OnRecord, Voter, is_share, eq-eqb}
use Rattle.qs_ops.specs.declared.vote.Vote.TheVariants as votes
use Rattle.qs_book_laws.proofs.Alikes.{at_exact, voter_exact, voter_equal}
use Rattle.qs_book_laws.proofs.Counts.{count_in, no_count, Counted as SameCount, of_transaction}
use Rattle.qs_book_laws.proofs.Faces.{Age, age, Alike}
use Rattle.qs_book_laws.proofs.Holding.{clash}
use Rattle.qs_book_laws.proofs.Holds.{elsewhere}
use Rattle.qs_book_laws.proofs.Maps.{changed_at_alike, changed_apart, lookup_put_apart}
use Rattle.qs_book_laws.proofs.Shares.{at_other, same_tid_swapped, removed_apart}
use Rattle.qs_book_laws.proofs.Stills.{Facet, facet, Still}
use Rattle.qs_book_laws.proofs.Takes.{some_same}

-- the incarnation of a node, and what is on record there of the transaction
pub record Mark : Type 0 where
  pub inc : ℕ
  pub rec : Option OnRecord

abbrev pub mark_in : Tid → ℕ → NodeValue → Mark
mark_in tid s v = record { inc = v.inc; rec = record_of v tid s }

abbrev pub mark_of : BookValue → Tid → Member → Option Mark
mark_of book tid member = option_map (mark_in tid member.server.0) (slice_get book.nodes member.node.0)

-- votes of other transactions, or of other servers
pub voter_apart : (tid t : Tid) (s k : ℕ) → (k ≡ s → same_tid t tid ≡ false) → is_at (voter_cmp (voter tid s)) (voter t k) ≡ false
voter_apart tid t s k apart = by (is_at (voter_cmp (voter tid s)) (voter t k)) refl
  where
    by : (b : Bool) → is_at (voter_cmp (voter tid s)) (voter t k) ≡ b → b ≡ false
    by false is = refl
    by true is =
        let e : voter tid s ≡ voter t k = voter_exact (voter tid s) (voter t k) is in
        let same : tid ≡ t = ap (λ (v : Voter). v.tid) e in
        let at : k ≡ s = sym (ap (λ (v : Voter). v.server.0) e) in
        let self : same_tid t tid ≡ true = subst (λ (x : Tid). same_tid t x ≡ true) (sym same) (same_tid-self t) in
        absurd (clash self (apart at))

voter_apart_back : (tid t : Tid) (s k : ℕ) → (k ≡ s → same_tid t tid ≡ false) → is_at (voter_cmp (voter t k)) (voter tid s) ≡ false
voter_apart_back tid t s k apart = by (is_at (voter_cmp (voter t k)) (voter tid s)) refl
  where
    by : (b : Bool) → is_at (voter_cmp (voter t k)) (voter tid s) ≡ b → b ≡ false
    by false is = refl
    by true is =
        let e : voter t k ≡ voter tid s = voter_exact (voter t k) (voter tid s) is in
        let same : tid ≡ t = sym (ap (λ (v : Voter). v.tid) e) in
        let at : k ≡ s = ap (λ (v : Voter). v.server.0) e in
        let self : same_tid t tid ≡ true = subst (λ (x : Tid). same_tid t x ≡ true) (sym same) (same_tid-self t) in
        absurd (clash self (apart at))

module _ (tid : Tid) (member : Member) where
  abbrev s : ℕ
  s = member.server.0

  abbrev pub SameMark : BookValue → BookValue → Type 0
  SameMark old new = mark_of new tid member ≡ mark_of old tid member

  pub still_mark : (old new : BookValue) → Still old new → Alike old new → SameMark old new
  still_mark old new a b = of (slice_get new.nodes member.node.0) (slice_get old.nodes member.node.0) (a.facets member.node.0) (b.ages member.node.0)
    where
      made : Facet → Age → Mark
      made f g = record { inc = g.inc; rec = lookup (is_at (voter_cmp (voter tid member.server.0))) f.records }

      of : (o p : Option NodeValue) → option_map facet o ≡ option_map facet p → option_map age o ≡ option_map age p → option_map (mark_in tid member.server.0) o ≡ option_map (mark_in tid member.server.0) p
      of None None h k = refl
      of None (Some y) h k = absurd (cc h)
      of (Some x) None h k = absurd (cc h)
      of (Some x) (Some y) h k =
          let f : facet x ≡ facet y = some_same (facet x) (facet y) h in
          let g : age x ≡ age y = some_same (age x) (age y) k in
          let one : mark_in tid member.server.0 x ≡ made (facet x) (age x) = refl in
          let two : mark_in tid member.server.0 y ≡ made (facet y) (age y) = refl in
          ap Some (one ∙ (ap (λ (u : Facet). made u (age x)) f ∙ ap (λ (u : Age). made (facet y) u) g))

  -- an act on the share of another
  pub share_mark : (t : Tid) (other : Member) (f : NodeValue → NodeValue) → ((v : NodeValue) → (other.server.0 ≡ member.server.0 → same_tid t tid ≡ false) → mark_in tid member.server.0 (f v) ≡ mark_in tid member.server.0 v)
      → is_share tid member t other ≡ false → (nodes : List NodeValue)
      → option_map (mark_in tid member.server.0) (slice_get (changed_at other.node.0 f nodes) member.node.0) ≡ option_map (mark_in tid member.server.0) (slice_get nodes member.node.0)
  share_mark t other f keeps apart nodes = by (other.node.0 == member.node.0) refl
    where
      split : (x y z : Bool) → (x && (y && z)) ≡ false → y ≡ true → z ≡ true → x ≡ false
      split true true true h yes_y yes_z = absurd (cc h)
      split false y z h yes_y yes_z = refl
      split true false z h yes_y yes_z = absurd (cc yes_y)
      split true true false h yes_y yes_z = absurd (cc yes_z)

      by : (c : Bool) → (other.node.0 == member.node.0) ≡ c
          → option_map (mark_in tid member.server.0) (slice_get (changed_at other.node.0 f nodes) member.node.0) ≡ option_map (mark_in tid member.server.0) (slice_get nodes member.node.0)
      by false far = ap (λ (o : Option NodeValue). option_map (mark_in tid member.server.0) o) (elsewhere f nodes other.node.0 member.node.0 far)
      by true near =
          changed_at_alike (mark_in tid member.server.0) f
          (λ v. keeps v (λ e. split (same_tid t tid) (other.node.0 == member.node.0) (other.server.0 == member.server.0) apart near (eq-eqb other.server.0 member.server.0 e))) nodes other.node.0 member.node.0

  -- a vote that goes on record
  pub put_mark : (t : Tid) (k count : ℕ) (crossed : Bool) (covers : ℕ) (v : NodeValue) → (k ≡ member.server.0 → same_tid t tid ≡ false) → mark_in tid member.server.0 (vote_node count crossed t k votes.Recoverable covers v) ≡ mark_in tid member.server.0 v
  put_mark t k count crossed covers v apart =
      ap (made v.inc) (lookup_put_apart voter_cmp (voter t k) _ (λ x. voter_equal (voter t k) x) (is_at (voter_cmp (voter tid member.server.0))) (voter_apart tid t member.server.0 k apart) v.records)
    where
      made : ℕ → Option OnRecord → Mark
      made inc rec = record { inc = inc; rec = rec }

  pub remove_mark : (t : Tid) (k : ℕ) (v : NodeValue) → (k ≡ member.server.0 → same_tid t tid ≡ false) → mark_in tid member.server.0 (without_record t k v) ≡ mark_in tid member.server.0 v
  remove_mark t k v apart = ap (made v.inc) (removed_apart (is_at (voter_cmp (voter t k))) (is_at (voter_cmp (voter tid member.server.0))) each v.records)
    where
      made : ℕ → Option OnRecord → Mark
      made inc rec = record { inc = inc; rec = rec }

      each : (x : Voter) → is_at (voter_cmp (voter tid member.server.0)) x ≡ true → is_at (voter_cmp (voter t k)) x ≡ false
      each x is = subst (λ (y : Voter). is_at (voter_cmp (voter t k)) y ≡ false) (voter_exact (voter tid member.server.0) x is) (voter_apart_back tid t member.server.0 k apart)

  -- an act on another's part
  pub apart_count : (t : Tid) (other : Member) (f : TransactionValue → TransactionValue) → (same_member other member ≡ false → (inc : ℕ) (tx : TransactionValue) → count_in member inc (f tx) ≡ count_in member inc tx)
      → is_share tid member t other ≡ false → (book : BookValue) → SameCount tid member book (with_transaction t f book)
  apart_count t other f keeps apart book = by (same_tid t tid) (same_member other member) refl refl apart
    where
      swapped : same_tid t tid ≡ false → (k : Tid) → is_at (tid_cmp tid) k ≡ true → is_at (tid_cmp t) k ≡ false
      swapped other_tid k is = subst (λ (x : Tid). is_at (tid_cmp t) x ≡ false) (at_exact tid k is) (at_other t tid (same_tid_swapped t tid other_tid))

      by : (x y : Bool) → same_tid t tid ≡ x → same_member other member ≡ y → (x && y) ≡ false → SameCount tid member book (with_transaction t f book)
      by true true p q h = absurd (cc h)
      by true false p q h = of_transaction tid member t f (keeps q) book
      by false y p q h = λ inc. ap (λ (o : Option TransactionValue). unwrap_or (option_map (count_in member inc) o) no_count) (changed_apart (is_at (tid_cmp t)) (is_at (tid_cmp tid)) (swapped p) f book.transactions)
