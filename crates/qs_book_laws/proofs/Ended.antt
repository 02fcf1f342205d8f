-- A life of a node that has ended, or is still to come, is no more and not yet: no entry changes what a member did in it.
use Rattle.qs_book_laws.proofs.Words.{◌≡◌, ℕ, ◌<◌, ◌==◌, ◌&&◌, Bool, true, false, List, [], ◌∷◌, Option, Some, None, refl, sym, ap, subst, ◌∙◌, if◌then◌else◌, arith, nat_tests, slice_get, nat_lt, same_tid, same_member, ClientNo, Member, Tid, same_member-true, class_of, Act, Begin, Issue, Serve, Ask, Counted, Decide, Ending, Learn, Loan, Yield, Tick, Crash, Restart, Entry, TransactionValue, borrower, serving_part, voted_part, learnt_part, ended_part, made_part, yielded_part, Part, BookValue}
use Rattle.qs_book_laws.proofs.Words.{find_transaction, inc_at, is_done, borrower_at, broken_ending, may_end, is_in_order, broken_act, broken_at, broken, effect, IsLawful, book_after, NodeValue, restarts}
use Rattle.qs_book_journal.specs.declared.entry.Act.TheVariants.{Answer}
use Rattle.qs_book_journal.specs.declared.entry.Act.TheVariants as acts
use Rattle.qs_book_machine.specs.Clauses.{is_immediate}
use Rattle.qs_book_laws.proofs.Begun.{inc_in}
use Rattle.qs_book_laws.proofs.Holding.{left_of, right_of, same_number, serve_here, vote_here, learn_here}
use Rattle.qs_book_laws.proofs.Lives.{same_life, inc_is, Reborn, reborn, Restarting, restarting, step_part, none_born, later_born}
use Rattle.qs_book_laws.proofs.Outcomes.{Inv}
use Rattle.qs_book_laws.proofs.Parts.{IsPart, is_own, part_for, part_after, starts_life}
use Rattle.qs_book_laws.proofs.Steps.{held, stepped}
use Rattle.qs_book_laws.proofs.Takes.{some_same}
use Rattle.qs_book_laws.proofs.Turns.{Stands}

-- ---- where the acts of members stand

pub ending_here : (here : ℕ) (node : NodeValue) (o : Option TransactionValue) (member : Member) → broken_ending here node o member ≡ None → member.node.0 ≡ here
ending_here here node None member h = absurd (cc h)
ending_here here node (Some tx) member h =
    same_number member.node.0 here (right_of (is_immediate (class_of member.server.0)) (member.node.0 == here) (left_of _ _ (held (may_end here node tx member) 90 None h).0))

pub borrower_here : (client : ClientNo) (here : ℕ) (other : Member) → borrower_at client here ≡ Some other → other ≡ borrower client (record { 0 = here })
borrower_here client here other = of (nat_lt client.0 224)
  where
    of : (b : Bool) → (if b then Some (borrower client (record { 0 = here })) else None) ≡ Some other → other ≡ borrower client (record { 0 = here })
    of true h = sym (some_same (borrower client (record { 0 = here })) other h)
    of false h = absurd (cc h)

-- the member whose act it is
abbrev pub member_of : ℕ → Act → Option Member
member_of here (Serve t other from n reply) = Some other
member_of here (acts.Vote t other ballot covers) = Some other
member_of here (Ending t other) = Some other
member_of here (Learn t other outcome) = Some other
member_of here (Loan t client) = borrower_at client here
member_of here (Yield t client) = borrower_at client here
member_of here act = None

-- a lawful act of a member stands at its node
pub acts_here : (book : BookValue) (stamp here : ℕ) (node : NodeValue) (act : Act) (other : Member) → broken_act book stamp here node act ≡ None → member_of here act ≡ Some other → other.node.0 ≡ here
acts_here book stamp here node (Serve t m from n reply) other h is = subst (λ (x : Member). x.node.0 ≡ here) (some_same m other is) (serve_here book here node t (find_transaction book t) m from.0 n reply h)
acts_here book stamp here node (acts.Vote t m ballot covers) other h is = subst (λ (x : Member). x.node.0 ≡ here) (some_same m other is) (vote_here here node t (find_transaction book t) m ballot covers h)
acts_here book stamp here node (Ending t m) other h is = subst (λ (x : Member). x.node.0 ≡ here) (some_same m other is) (ending_here here node (find_transaction book t) m h)
acts_here book stamp here node (Learn t m outcome) other h is = subst (λ (x : Member). x.node.0 ≡ here) (some_same m other is) (learn_here here node (find_transaction book t) m outcome h)
acts_here book stamp here node (Loan t client) other h is = ap (λ (x : Member). x.node.0) (borrower_here client here other is)
acts_here book stamp here node (Yield t client) other h is = ap (λ (x : Member). x.node.0) (borrower_here client here other is)
acts_here book stamp here node act other h is = absurd (cc is)

-- ---- no act changes a part of another life than the present one

module _ (tid : Tid) (member : Member) (inc : ℕ) where
  not_own : (t : Tid) (other : Member) (now : ℕ) → (same_member other member ≡ true → (now == inc) ≡ false) → is_own tid member inc t other now ≡ false
  not_own t other now far = by (same_tid t tid) (same_member other member) (now == inc) far
    where
      by : (a b c : Bool) → (b ≡ true → c ≡ false) → (a && (b && c)) ≡ false
      by false b c h = refl
      by true false c h = refl
      by true true c h = h refl

  module _ (now stamp here : ℕ) (part : Part) where
    choice : (t : Tid) (other : Member) (f : Part → Part) → (same_member other member ≡ true → (now == inc) ≡ false) → (if is_own tid member inc t other now then f part else part) ≡ part
    choice t other f far = ap (λ (b : Bool). if b then f part else part) (not_own t other now far)

    choice_for : (t : Tid) (o : Option Member) (f : Part → Part) → ((other : Member) → o ≡ Some other → same_member other member ≡ true → (now == inc) ≡ false) → part_for tid member inc t o now f part ≡ part
    choice_for t None f far = refl
    choice_for t (Some other) f far = choice t other f (far other refl)

    others_life : (act : Act) → ((other : Member) → member_of here act ≡ Some other → same_member other member ≡ true → (now == inc) ≡ false) → part_after tid member inc now stamp here act part ≡ part
    others_life (Serve t other from n reply) far = choice t other (serving_part (class_of other.server.0) stamp (is_done reply)) (far other refl)
    others_life (acts.Vote t other ballot covers) far = choice t other (voted_part ballot) (far other refl)
    others_life (Ending t other) far = choice t other ended_part (far other refl)
    others_life (Learn t other outcome) far = choice t other (learnt_part outcome) (far other refl)
    others_life (Loan t client) far = choice_for t (borrower_at client here) made_part far
    others_life (Yield t client) far = choice_for t (borrower_at client here) yielded_part far
    others_life act far = refl

  -- the present life of the member's node is another
  pub unchanged : (book : BookValue) (entry : Entry) (now : ℕ) (part : Part) → broken book entry ≡ None → inc_in book member.node.0 ≡ Some now → (now == inc) ≡ false
      → part_after tid member inc (inc_at book entry.node) entry.stamp entry.node.0 entry.act part ≡ part
  unchanged book entry now part h was apart = others_life (inc_at book entry.node) entry.stamp entry.node.0 part entry.act (far (slice_get book.nodes entry.node.0) entry.act (held (is_in_order book entry) 1 _ h).1)
    where
      far : (o : Option NodeValue) (act : Act) → broken_at book entry.stamp entry.node.0 o act ≡ None → (other : Member) → member_of entry.node.0 act ≡ Some other → same_member other member ≡ true → (inc_at book entry.node == inc) ≡ false
      far None act k other is same = absurd (cc k)
      far (Some node) (Restart new pend done) k other is same = absurd (cc is)
      far (Some node) act k other is same =
          let e : other.node.0 ≡ entry.node.0 = acts_here book entry.stamp entry.node.0 node act other (held node.up 2 (broken_act book entry.stamp entry.node.0 node act) k).1 is in
          let m : other ≡ member = same_member-true other member same in
          let there : inc_in book entry.node.0 ≡ Some now = ap (inc_in book) (sym e ∙ ap (λ (x : Member). x.node.0) m) ∙ was in
          subst (λ (n : ℕ). (n == inc) ≡ false) (sym (inc_is book entry.node.0 now there)) apart

  apart_from : (now : ℕ) → inc < now → (now == inc) ≡ false
  apart_from now h = grind (arith, nat_tests)

  chain : (now new : ℕ) → inc < now → now < new → inc < new
  chain now new h k = omega arith

  -- a life that has ended is over
  pub ended_last : (entries : List Entry) (book : BookValue) (part : Part) (now : ℕ) → Inv book → IsLawful book entries → Stands tid (IsPart tid member inc part part) book → inc_in book member.node.0 ≡ Some now → inc < now
      → Stands tid (IsPart tid member inc part part) (book_after book entries)
  ended_last [] book part now i lawful s was later = s
  ended_last (entry ∷ entries) book part now i lawful s was later = by (restarts member.node entry) refl (λ next is k stands. ended_last entries (effect book entry) part next (stepped book entry i lawful.0).inv lawful.1 stands is k)
    where
      stand_on : (new : Part) → new ≡ part → Stands tid (IsPart tid member inc part new) (effect book entry) → Stands tid (IsPart tid member inc part part) (effect book entry)
      stand_on new e s = record { tx = s.tx; found = s.found; holds = s.holds ∙ e }

      after : starts_life member inc entry.node.0 entry.act ≡ false → Stands tid (IsPart tid member inc part part) (effect book entry)
      after quiet = stand_on _ (unchanged book entry now part lawful.0 was (apart_from now later)) (step_part tid member inc part book entry i lawful.0 quiet s)

      by : (b : Bool) → restarts member.node entry ≡ b
          → ((next : ℕ) → inc_in (effect book entry) member.node.0 ≡ Some next → inc < next → Stands tid (IsPart tid member inc part part) (effect book entry) → Stands tid (IsPart tid member inc part part) (book_after (effect book entry) entries))
          → Stands tid (IsPart tid member inc part part) (book_after (effect book entry) entries)
      by true is more =
          let r : Restarting member.node entry = restarting member.node entry is in
          let x : Reborn book (effect book entry) member.node.0 r.inc = reborn book entry member.node.0 r.inc r.pend r.done lawful.0 r.act r.here in
          let rises : now < r.inc = subst (λ (n : ℕ). n < r.inc) (some_same x.old now (sym x.was ∙ was)) x.later in
          more r.inc x.now (chain now r.inc later rises) (after (later_born member inc entry r.inc r.pend r.done r.act (chain now r.inc later rises)))
      by false is more = more now (same_life member.node book entry is lawful.0 ∙ was) later (after (none_born member inc entry is))
