-- Through every lawful history: what is open on the links to a node is what stood open before and is not counted since, or issued since.
use Rattle.qs_book_laws.proofs.Words.{◌≡◌, ℕ, ◌+◌, ◌<◌, ◌≤◌, ◌==◌, ◌&&◌, ◌||◌, Bool, true, false, not, List, [], ◌∷◌, Option, Some, None, refl, sym, ap, subst, ◌∙◌, if◌then◌else◌, arith, nat_tests, unwrap_or, nat_lt, nat_le, list_any, lookup, is_at, tied_itself, nat_cmp_total, same_tid, Member, NodeNo, Tid, same_tid-true, files_no, Op, Act, Issue, Counted, Entry, TransactionValue, link_cmp, sent_on, sent_in, sent_more, with_counted, issued, counted, is_by_files, Link, Request, RequestNo, Sent}
use Rattle.qs_book_laws.proofs.Words.{BookValue, find_transaction, inc_at, link_to, broken, effect, is_count_of, is_counted, is_restart, restarts, le_one_more, and_false}
use Rattle.qs_book_machine.specs.Transaction.{next_number}
use Rattle.qs_book_laws.specs.Gone.{counts}
use Rattle.qs_book_laws.proofs.Gone.{inc_as}
use Rattle.qs_book_laws.proofs.LinkCounts.{stays, Paced, plain, elsewhere, count_own, issue_first, issue_more}
use Rattle.qs_book_laws.proofs.LinkLists.{Sents, Rising, Fits, Fit, rising_put, rising_changed, fit_later, fit_put, fit_changed, fit_found, any_same, found_of, any_put, any_changed}
use Rattle.qs_book_laws.proofs.Lives.{same_life, Reborn, reborn, Restarting, restarting}
use Rattle.qs_book_laws.proofs.Outcomes.{Inv}
use Rattle.qs_book_laws.proofs.Turns.{Gives}
use Rattle.qs_book_laws.proofs.Unanswered.{same_node}
use Rattle.qs_base_lemmas.proofs.Tests.{zero_le, eq_ge, lt_le}

-- ---- incarnations through a step

pub paced : (tid : Tid) (node : NodeNo) (book : BookValue) (entry : Entry) → broken book entry ≡ None → Paced tid node entry (inc_at book) (inc_at (effect book entry))
paced tid node book entry h = record {
  still = λ n far. inc_as (effect book entry) n ∙ (ap (λ (o : Option ℕ). unwrap_or o 0) (same_life n book entry far h) ∙ sym (inc_as book n));
  later = λ n near.
      let r : Restarting n entry = restarting n entry near in
      let x : Reborn book (effect book entry) n.0 r.inc = reborn book entry n.0 r.inc r.pend r.done h r.act r.here in
      over (inc_at book n) x.old r.inc (inc_at (effect book entry) n) (inc_as book n ∙ ap (λ (o : Option ℕ). unwrap_or o 0) x.was) x.later (inc_as (effect book entry) n ∙ ap (λ (o : Option ℕ). unwrap_or o 0) x.now);
}
  where
    over : (a b c d : ℕ) → a ≡ b → b < c → d ≡ c → a < d
    over a b c d e k f = omega arith

link_itself : (l : Link) → is_at (link_cmp l) l ≡ true
link_itself l = rw (tied_itself nat_cmp_total l.from.0, tied_itself nat_cmp_total l.to.0) refl

same_link : (here peer node : NodeNo) (k : Link) → (k.to.0 == node.0) ≡ true → (here.0 == k.from.0) ≡ true → (peer.0 == node.0) ≡ true → record { from = here; to = peer } ≡ k
same_link here peer node k e1 e2 e3 = ap (λ (n : NodeNo). record { from = n; to = peer }) (same_node here k.from e2) ∙ ap (λ (n : NodeNo). record { from = k.from; to = n }) (same_node peer node e3 ∙ sym (same_node k.to node e1))

module _ (tid : Tid) (node : NodeNo) where
  -- of files, or not counted
  abbrev pub is_lasting_issue : NodeNo → Act → List Entry → Bool
  is_lasting_issue from (Issue t issuer member number op) since =
      (same_tid t tid && (member.node.0 == node.0)) && ((issuer.server.0 == files_no) || not (is_counted tid node from number since))
  is_lasting_issue from act since = false

  abbrev pub some_last : List Entry → Bool
  some_last [] = false
  some_last (entry ∷ since) = is_lasting_issue entry.node entry.act since || some_last since

  pub record Sound (inc : NodeNo → ℕ) (sent : Sents) : Type 0 where
    pub rising : Rising sent
    pub fit : Fit inc sent

  pub record Stay (inc : NodeNo → ℕ) (since : List Entry) (was : Bool) (sent : Sents) : Type 0 where
    pub sound : Sound inc sent
    pub is : list_any (stays tid node inc since) sent ≡ was

  -- ---- a step

  module _ (book : BookValue) (entry : Entry) (since : List Entry) (i : Inv book) (h : broken book entry ≡ None) (g : Bool) where
    abbrev inc : NodeNo → ℕ
    inc = inc_at book

    abbrev new : NodeNo → ℕ
    new = inc_at (effect book entry)

    abbrev P : TransactionValue → Type 0
    P tx = Stay inc (entry ∷ since) g tx.sent

    abbrev Q : Bool → TransactionValue → Type 0
    Q x tx = Stay new since (g || x) tx.sent

    pace : Paced tid node entry inc new
    pace = paced tid node book entry h

    rises : (n : NodeNo) → inc n ≤ new n
    rises n = by (restarts n entry) refl
      where
        by : (b : Bool) → restarts n entry ≡ b → inc n ≤ new n
        by false far = eq_ge (inc n) (new n) (pace.still n far)
        by true near = lt_le (inc n) (new n) (pace.later n near)

    or_none : (b : Bool) → b ≡ (b || false)
    or_none true = refl
    or_none false = refl

    -- an entry that neither issues nor counts
    pub keeps : ((from : NodeNo) (n : ℕ) → counts tid node from n entry ≡ false) → (x : Bool) → x ≡ false → (tx : TransactionValue) → P tx → Q x tx
    keeps none x zero_x tx p = record {
      sound = record { rising = p.sound.rising; fit = fit_later inc new rises tx.sent p.sound.fit };
      is =
          any_same inc (stays tid node inc (entry ∷ since)) (stays tid node new since) tx.sent p.sound.fit (λ k s f. plain tid node entry since inc new pace k s f.0 (none k.from s.count))
          ∙ (p.is ∙ (or_none g ∙ ap (λ (b : Bool). g || b) (sym zero_x)));
    }

    pub uncounted : (act : Act) → entry.act ≡ act → ((n : ℕ) → is_count_of tid node n act ≡ false) → (from : NodeNo) (n : ℕ) → counts tid node from n entry ≡ false
    uncounted act is none from n = ap (λ (a : Act). (entry.node.0 == from.0) && is_count_of tid node n a) is ∙ (ap (λ (b : Bool). (entry.node.0 == from.0) && b) (none n) ∙ and_false (entry.node.0 == from.0))

    unmoved : (act : Act) → entry.act ≡ act → is_restart act ≡ false → (n : NodeNo) → restarts n entry ≡ false
    unmoved act is none n = ap (λ (a : Act). (entry.node.0 == n.0) && is_restart a) is ∙ (ap (λ (b : Bool). (entry.node.0 == n.0) && b) none ∙ and_false (entry.node.0 == n.0))

    abbrev pub here : NodeNo
    here = entry.node

    -- ---- an issue

    module _ (t : Tid) (issuer member : Member) (number : ℕ) (op : Op) (is : entry.act ≡ Issue t issuer member number op) where
      abbrev pub no : RequestNo
      no = record { link = link_to here.0 member; number = number }

      abbrev pub request : Request
      request = record { issuer = issuer; member = member; op = op; inc = inc here; served = false }

      abbrev pub x : Bool
      x = is_lasting_issue here (Issue t issuer member number op) since

      none : (from : NodeNo) (n : ℕ) → counts tid node from n entry ≡ false
      none = uncounted (Issue t issuer member number op) is (λ n. refl)

      far : (n : NodeNo) → restarts n entry ≡ false
      far = unmoved (Issue t issuer member number op) is refl

      issued_own : (tx : TransactionValue) → same_tid t tid ≡ true → number ≡ next_number tx no.link (inc here) → P tx → Q x (issued no request (inc member.node) book.place tx)
      issued_own tx same numbered p = record {
        sound = record { rising = rising_put no.link v tx.sent p.sound.rising; fit = fit_put new no.link v tx.sent v_fits (fit_later inc new rises tx.sent p.sound.fit) };
        is = any_put inc q r no.link tx.sent v x p.sound.fit (λ k s f. plain tid node entry since inc new pace k s f.0 (none k.from s.count)) (own (sent_on tx no.link) refl) ∙ ap (λ (b : Bool). b || x) p.is;
      }
        where
          q : Link × Sent → Bool
          q = stays tid node inc (entry ∷ since)

          r : Link × Sent → Bool
          r = stays tid node new since

          v : Sent
          v = sent_more request (sent_on tx no.link)

          opens : ℕ → Bool
          opens n = (member.node.0 == node.0) && (is_by_files request || not (is_counted tid node here n since))

          x_is : x ≡ opens number
          x_is = ap (λ (b : Bool). (b && (member.node.0 == node.0)) && (is_by_files request || not (is_counted tid node here number since))) same

          counted_below : (s : Sent) → sent_on tx no.link ≡ Some s → s.counted ≤ s.count
          counted_below s there = (fit_found inc no.link s tx.sent there p.sound.fit).1

          own : (o : Option Sent) → sent_on tx no.link ≡ o → r (no.link, v) ≡ (found_of inc q r no.link tx.sent || x)
          own None there =
              ap (λ (o : Option Sent). r (no.link, sent_more request o)) there
              ∙ (issue_first tid node entry since inc new pace no.link request (far here) (none here) refl
              ∙ (ap (λ (n : ℕ). false || opens n) (sym (numbered ∙ ap (λ (o : Option Sent). sent_in (inc here) o + 1) there))
              ∙ (ap (λ (b : Bool). false || b) (sym x_is)
              ∙ ap (λ (o : Option Sent). (elim o as (λ y. Bool) [ None ↦ false | Some s ↦ q (no.link, s) ]) || x) (sym there))))
          own (Some s) there =
              ap (λ (o : Option Sent). r (no.link, sent_more request o)) there
              ∙ (issue_more tid node entry since inc new pace no.link request (far here) (none here) refl s (counted_below s there)
              ∙ (ap (λ (n : ℕ). q (no.link, s) || opens n) (sym (numbered ∙ ap (λ (o : Option Sent). sent_in (inc here) o + 1) there))
              ∙ (ap (λ (b : Bool). q (no.link, s) || b) (sym x_is)
              ∙ ap (λ (o : Option Sent). (elim o as (λ y. Bool) [ None ↦ false | Some s ↦ q (no.link, s) ]) || x) (sym there))))

          v_fits : Fits new no.link v
          v_fits = of (sent_on tx no.link) refl
            where
              more : (s : Sent) → s.inc ≤ new here → s.counted ≤ s.count → (b : Bool) → (s.inc == request.inc) ≡ b → Fits new no.link (sent_more request (Some s))
              more s at below true e = rw e (at, le_one_more s.counted s.count below)
              more s at below false e = rw e (rises here, zero_le 1)

              of : (o : Option Sent) → sent_on tx no.link ≡ o → Fits new no.link (sent_more request o)
              of None there = (rises here, zero_le 1)
              of (Some s) there =
                  let f : Fits new no.link s = fit_found new no.link s tx.sent there (fit_later inc new rises tx.sent p.sound.fit) in
                  more s f.0 f.1 (s.inc == request.inc) refl

      pub issue_gives : ((tx : TransactionValue) → find_transaction book t ≡ Some tx → number ≡ next_number tx no.link (inc here)) → Gives tid P (Q x) book t (issued no request (inc member.node) book.place)
      issue_gives numbered = record {
        own = λ same tx found p. issued_own tx same (numbered tx (ap (find_transaction book) (same_tid-true t tid same) ∙ found)) p;
        other = λ apart. keeps none x (ap (λ (b : Bool). (b && (member.node.0 == node.0)) && ((issuer.server.0 == files_no) || not (is_counted tid node here number since))) apart);
      }

    -- ---- a count

    module _ (t : Tid) (peer : NodeNo) (upto : ℕ) (is : entry.act ≡ Counted t peer upto) where
      abbrev pub link : Link
      link = record { from = here; to = peer }

      far_all : (n : NodeNo) → restarts n entry ≡ false
      far_all = unmoved (Counted t peer upto) is refl

      counts_is : (from : NodeNo) (n : ℕ) → counts tid node from n entry ≡ ((here.0 == from.0) && ((same_tid t tid && (peer.0 == node.0)) && nat_le n upto))
      counts_is from n = ap (λ (a : Act). (here.0 == from.0) && is_count_of tid node n a) is

      itself : (n : ℕ) → (n == n) ≡ true
      itself n = grind (arith, nat_tests)

      pub count_gives : ((tx : TransactionValue) → find_transaction book t ≡ Some tx → upto ≤ sent_in (inc here) (sent_on tx link)) → Gives tid P (Q false) book t (counted link (inc here) upto (inc peer))
      count_gives most = record {
        own = λ same tx found p. at tx same (most tx (ap (find_transaction book) (same_tid-true t tid same) ∙ found)) p;
        other = λ apart. keeps (λ from n. counts_is from n ∙ (ap (λ (b : Bool). (here.0 == from.0) && ((b && (peer.0 == node.0)) && nat_le n upto)) apart ∙ and_false (here.0 == from.0))) false refl;
      }
        where
          at : (tx : TransactionValue) → same_tid t tid ≡ true → upto ≤ sent_in (inc here) (sent_on tx link) → P tx → Q false (counted link (inc here) upto (inc peer) tx)
          at tx same below p = record {
            sound = record {
              rising = rising_changed (is_at (link_cmp link)) (with_counted (inc here) upto) tx.sent p.sound.rising;
              fit = fit_changed new (is_at (link_cmp link)) (with_counted (inc here) upto) tx.sent (λ v there. changed v there) (fit_later inc new rises tx.sent p.sound.fit);
            };
            is = any_changed inc q r link others (with_counted (inc here) upto) tx.sent p.sound.rising p.sound.fit (λ v there. own v there (peer.0 == node.0) refl) ∙ (p.is ∙ or_none g);
          }
            where
              q : Link × Sent → Bool
              q = stays tid node inc (entry ∷ since)

              r : Link × Sent → Bool
              r = stays tid node new since

              own : (v : Sent) → lookup (is_at (link_cmp link)) tx.sent ≡ Some v → (b : Bool) → (peer.0 == node.0) ≡ b → r (link, with_counted (inc here) upto v) ≡ q (link, v)
              own v there true near =
                  count_own tid node entry since inc new pace link v upto (far_all here)
                  (λ n. counts_is here n ∙ (ap (λ (b : Bool). b && ((same_tid t tid && (peer.0 == node.0)) && nat_le n upto)) (itself here.0) ∙ (ap (λ (b : Bool). (b && (peer.0 == node.0)) && nat_le n upto) same ∙ ap (λ (b : Bool). b && nat_le n upto) near)))
                  (subst (λ (o : Option Sent). upto ≤ sent_in (inc here) o) there below)
              own v there false away = elsewhere tid node entry since inc new pace link v (with_counted (inc here) upto v) away

              changed : (v : Sent) → lookup (is_at (link_cmp link)) tx.sent ≡ Some v → ((with_counted (inc here) upto v).inc ≡ v.inc) × ((with_counted (inc here) upto v).counted ≤ (with_counted (inc here) upto v).count)
              changed v there = by (v.inc == inc here) (nat_lt v.counted upto) refl
                where
                  fits : Fits inc link v
                  fits = fit_found inc link v tx.sent there p.sound.fit

                  by : (a b : Bool) → (v.inc == inc here) ≡ a → ((if a && b then record v { counted = upto } else v).inc ≡ v.inc) × ((if a && b then record v { counted = upto } else v).counted ≤ (if a && b then record v { counted = upto } else v).count)
                  by true true e = (refl, subst (λ (n : ℕ). upto ≤ n) (ap (λ (y : Bool). if y then v.count else 0) e) (subst (λ (o : Option Sent). upto ≤ sent_in (inc here) o) there below))
                  by true false e = (refl, fits.1)
                  by false b e = (refl, fits.1)

              others : (k : Link) (s : Sent) → is_at (link_cmp link) k ≡ false → Fits inc k s → r (k, s) ≡ q (k, s)
              others k s apart f = by (k.to.0 == node.0) (here.0 == k.from.0) (peer.0 == node.0) refl refl refl
                where
                  none_of : counts tid node k.from s.count entry ≡ false → r (k, s) ≡ q (k, s)
                  none_of c = plain tid node entry since inc new pace k s f.0 c

                  by : (a b c : Bool) → (k.to.0 == node.0) ≡ a → (here.0 == k.from.0) ≡ b → (peer.0 == node.0) ≡ c → r (k, s) ≡ q (k, s)
                  by false b c away e2 e3 = elsewhere tid node entry since inc new pace k s s away
                  by true false c e1 e2 e3 = none_of (counts_is k.from s.count ∙ ap (λ (b : Bool). b && ((same_tid t tid && (peer.0 == node.0)) && nat_le s.count upto)) e2)
                  by true true false e1 e2 e3 = none_of (counts_is k.from s.count ∙ (ap (λ (b : Bool). (here.0 == k.from.0) && ((same_tid t tid && b) && nat_le s.count upto)) e3 ∙ away2 (here.0 == k.from.0) (same_tid t tid)))
                    where
                      away2 : (a b : Bool) → (a && ((b && false) && nat_le s.count upto)) ≡ false
                      away2 true true = refl
                      away2 true false = refl
                      away2 false b = refl
                  by true true true e1 e2 e3 = absurd (cc (apart, at_it (same_link here peer node k e1 e2 e3)))
                    where
                      at_it : link ≡ k → is_at (link_cmp link) k ≡ true
                      at_it e = subst (λ (l : Link). is_at (link_cmp link) l ≡ true) e (link_itself link)
