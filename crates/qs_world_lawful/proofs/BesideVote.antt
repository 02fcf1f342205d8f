-- A server votes: what is read of its transaction stands on.
use Rattle.qs_world_lawful.proofs.Words.{◌≡◌, ◌≢◌, ℕ, ◌≤◌, ◌+◌, ◌==◌, Bool, true, false, List, [], ◌∷◌, Option, Some, None, Less, Equal, Greater, refl, sym, ap, subst, ◌∙◌, arith, length, nat_tests, exact_pairs, exact_unsigned, is_at, insert_key, list_any, lookup, ◌&&◌, ◌||◌, not, unwrap_or, Ordering, same_member-self, NodeNo, ServerNo, Tid, changed_none, lookup_changed, TransactionValue, changed_value, is_covering, is_start, life, life_cmp, no_part, start_cmp, starts_after, voted, voted_part}
use Rattle.qs_world_lawful.proofs.Words.{Life, Part, Start, class_of, is_two_phase, Vote, member_of, with_causes_of, MemberPart, Participant, HoldsReader, HoldsReads, at_server, eqb-self, and_false, le_le, eqb-false, eqb-true}
use Rattle.std.proofs.Common.{nat_cmp}
use Rattle.qs_book_machine.specs.Transaction.{part_of}
use Rattle.qs_ops.specs.declared.vote.Vote.TheVariants as votes
use Rattle.qs_tm.specs.Members as rules
use Rattle.qs_tm.specs.Participant as participant
use Rattle.qs_world_lawful.specs.Holds.{is_kept}
use Rattle.qs_world_lawful.proofs.Casting.{cast, starts_grow}
use Rattle.qs_world_lawful.proofs.Keys.{life_exact}
use Rattle.qs_world_lawful.proofs.MemberRule.{parts_alike}
use Rattle.qs_world_lawful.proofs.MemberTid.{lives_apart}
use Rattle.qs_world_lawful.proofs.Parts.{changed_part_apart, with_other, with_own}
use Rattle.qs_base_lemmas.proofs.Tests.{eq_ge, zero_least}

-- ---- a start that was put

start_exact : (s t : Start) → start_cmp s t ≡ Equal → s ≡ t
start_exact s t e = ap (λ (p : Life × ℕ). record { life = p.0; served = p.1 }) (exact_pairs life_cmp nat_cmp life_exact exact_unsigned (s.life, s.served) (t.life, t.served) e)

put_there : (p : Start → Bool) (k : Start) (xs : List Start) → p k ≡ true → list_any p (insert_key start_cmp xs k) ≡ true
put_there p k [] has = rw has refl
put_there p k (x ∷ xs) has = by (start_cmp k x) refl (put_there p k xs has)
  where
    by : (r : Ordering) → start_cmp k x ≡ r → list_any p (insert_key start_cmp xs k) ≡ true → list_any p (insert_key start_cmp (x ∷ xs) k) ≡ true
    by Less is more = rw is (rw has refl)
    by Equal is more = rw is (rw (subst (λ (s : Start). p s ≡ true) (start_exact k x is) has) refl)
    by Greater is more = rw is (last (p x) more)
      where
        last : (a : Bool) → list_any p (insert_key start_cmp xs k) ≡ true → (a || list_any p (insert_key start_cmp xs k)) ≡ true
        last true e = refl
        last false e = e

voted_served : (ballot : Vote) (p : Part) → (voted_part ballot p).served ≡ p.served
voted_served (votes.Abort reason) p = refl
voted_served votes.ReadOnly p = refl
voted_served votes.Volatile p = refl
voted_served votes.Recoverable p = refl

voted_found : (ballot : Vote) (p : Part) → (voted_part ballot p).found ≡ p.found
voted_found (votes.Abort reason) p = refl
voted_found votes.ReadOnly p = refl
voted_found votes.Volatile p = refl
voted_found votes.Recoverable p = refl

-- a vote that reads only
is_read : Vote → Bool
is_read votes.ReadOnly = true
is_read vote = false

-- ---- what was read

module _ (here : NodeNo) (inc : ℕ) (server : ServerNo) (ballot : Vote) (count : ℕ) (tid : Tid) (tx : TransactionValue) (p : Participant) (size : length p.members ≡ 7) (kept : is_kept server ≡ true) (two : is_two_phase (class_of server.0) ≡ true)
    (count_is : count ≡ (member_of p server).served) (nothing : ballot ≡ votes.ReadOnly → server ≡ rules.files_no → (part_of tx (at_server here rules.files_no) inc).pending ≡ 0) where
  abbrev q : Participant
  q = participant.voted (at_server here server) ballot count p

  abbrev now : TransactionValue
  now = voted (at_server here server) inc ballot tx

  served_same : (other : ServerNo) → (part_of now (at_server here other) inc).served ≡ (part_of tx (at_server here other) inc).served
  served_same other = parts_alike (λ (x : Part). x.served) (life (at_server here server) inc) (voted_part ballot) (voted_served ballot) tx.parts (at_server here other) inc

  found_same : (other : ServerNo) → (part_of now (at_server here other) inc).found ≡ (part_of tx (at_server here other) inc).found
  found_same other = parts_alike (λ (x : Part). x.found) (life (at_server here server) inc) (voted_part ballot) (voted_found ballot) tx.parts (at_server here other) inc

  member_apart : (other : ServerNo) → server.0 ≢ other.0 → member_of q other ≡ member_of p other
  member_apart other far = with_other server other (record (member_of p server) { vote = Some (record { ballot = rules.ballot_of ballot; covers = count }) }) (with_causes_of (at_server here server) ballot p) far

  own_member : member_of q server ≡ cast ballot (member_of p server)
  own_member = with_own server (record (member_of p server) { vote = Some (record { ballot = rules.ballot_of ballot; covers = count }) }) (with_causes_of (at_server here server) ballot p) size kept
      ∙ ap (λ (n : ℕ). record (member_of p server) { vote = Some (record { ballot = rules.ballot_of ballot; covers = n }) }) count_is

  involved_on : p.involved ≡ true → q.involved ≡ true
  involved_on is = ap (λ (b : Bool). b || rules.is_binding (rules.ballot_of ballot)) is

  -- a vote that binds or refuses is not one of who only read
  reads_as : rules.has_read server (cast ballot (member_of p server)) ≡ true → ballot ≡ votes.ReadOnly
  reads_as read = of ballot (both (rules.votes_here server) ((member_of p server).served == 0) _ two read)
    where
      both : (a b c : Bool) → a ≡ true → (not a || ((b && false) || c)) ≡ true → c ≡ true
      both true true c e h = h
      both true false c e h = h
      both false b c e h = absurd (cc e)

      of : (v : Vote) → rules.is_let_go (cast v (member_of p server)) ≡ true → v ≡ votes.ReadOnly
      of votes.ReadOnly h = refl
      of votes.Volatile h = absurd (cc h)
      of votes.Recoverable h = absurd (cc h)
      of (votes.Abort reason) h = absurd (cc h)

  -- after it the count may begin anew
  own_anew : ballot ≡ votes.ReadOnly → is_covering now (at_server here server) inc 0 ≡ true
  own_anew is = last (0 == (part_of now (at_server here server) inc).served + (part_of now (at_server here server) inc).found)
      (subst (λ (n : ℕ). list_any (is_start (at_server here server) inc n 0) now.starts ≡ true) (sym (served_same server))
      (subst (λ (v : Vote). list_any (is_start (at_server here server) inc (part_of tx (at_server here server) inc).served 0) (starts_after v (life (at_server here server) inc) (part_of tx (at_server here server) inc).served tx.starts) ≡ true) (sym is)
      (put_there (is_start (at_server here server) inc (part_of tx (at_server here server) inc).served 0) (record { life = life (at_server here server) inc; served = (part_of tx (at_server here server) inc).served }) tx.starts
      (rw (same_member-self (at_server here server)) (itself inc (part_of tx (at_server here server) inc).served)))))
    where
      itself : (i n : ℕ) → ((i == i) && (n + 0 == n)) ≡ true
      itself i n = grind (arith, nat_tests)

      last : (a : Bool) {b : Bool} → b ≡ true → (a || b) ≡ true
      last true e = refl
      last false e = e

  own_reader : HoldsReader here inc tx p server → HoldsReader here inc now q server
  own_reader r = record {
    anew = λ is read. own_anew (reads_as (ap (rules.has_read server) (sym own_member) ∙ read));
    unfresh = λ is read. unfreshed (reads_as (ap (rules.has_read server) (sym own_member) ∙ read));
    told = λ told fresh. involved_on (r.told told (ap (λ (m : MemberPart). m.fresh) (sym own_member) ∙ fresh));
  }
    where
      unfreshed : ballot ≡ votes.ReadOnly → ((member_of q server).fresh && not (rules.is_let_go (member_of q server))) ≡ false
      unfreshed is = ap (λ (m : MemberPart). m.fresh && not (rules.is_let_go m)) own_member
          ∙ (ap (λ (v : Vote). (member_of p server).fresh && not (rules.is_let_go (cast v (member_of p server)))) is ∙ rw (eqb-self (member_of p server).served) (and_false (member_of p server).fresh))

  other_reader : (other : ServerNo) → server.0 ≢ other.0 → HoldsReader here inc tx p other → HoldsReader here inc now q other
  other_reader other far r = record {
    anew = λ is read. covers (r.anew is (ap (rules.has_read other) (sym (member_apart other far)) ∙ read));
    unfresh = λ is read. ap (λ (m : MemberPart). m.fresh && not (rules.is_let_go m)) (member_apart other far) ∙ r.unfresh is (ap (rules.has_read other) (sym (member_apart other far)) ∙ read);
    told = λ told fresh. involved_on (r.told told (ap (λ (m : MemberPart). m.fresh) (sym (member_apart other far)) ∙ fresh));
  }
    where
      covers : is_covering tx (at_server here other) inc 0 ≡ true → is_covering now (at_server here other) inc 0 ≡ true
      covers h = rw (served_same other, found_same other) (by (0 == (part_of tx (at_server here other) inc).served + (part_of tx (at_server here other) inc).found) h)
        where
          by : (b : Bool) → (b || list_any (is_start (at_server here other) inc (part_of tx (at_server here other) inc).served 0) tx.starts) ≡ true
              → (b || list_any (is_start (at_server here other) inc (part_of tx (at_server here other) inc).served 0) (starts_after ballot (life (at_server here server) inc) (part_of tx (at_server here server) inc).served tx.starts)) ≡ true
          by true e = refl
          by false e = starts_grow ballot (life (at_server here server) inc) (part_of tx (at_server here server) inc).served (is_start (at_server here other) inc (part_of tx (at_server here other) inc).served 0) tx.starts e

  same_server : (other : ServerNo) → (server.0 == other.0) ≡ true → server ≡ other
  same_server other e = ap (λ (n : ℕ). record { 0 = n }) (eqb-true server.0 other.0 e)

  reader : (other : ServerNo) → (b : Bool) → (server.0 == other.0) ≡ b → HoldsReader here inc tx p other → HoldsReader here inc now q other
  reader other true is r = subst (HoldsReader here inc now q) (same_server other is) (own_reader (subst (HoldsReader here inc tx p) (sym (same_server other is)) r))
  reader other false is r = other_reader other (eqb-false server.0 other.0 is) r

  -- ---- files

  part_apart_is : (other : ServerNo) → server.0 ≢ other.0 → part_of now (at_server here other) inc ≡ part_of tx (at_server here other) inc
  part_apart_is other far = changed_part_apart (life (at_server here server) inc) (voted_part ballot) tx.parts (at_server here other) inc (lives_apart here inc server other far)

  none_pending : ballot ≡ votes.ReadOnly → (part_of now (at_server here server) inc).pending ≡ 0
  none_pending is = subst (λ (v : Vote). (unwrap_or (lookup (is_at (life_cmp (life (at_server here server) inc))) (changed_value (is_at (life_cmp (life (at_server here server) inc))) (voted_part v) tx.parts)) no_part).pending ≡ 0) (sym is)
      (by (lookup (is_at (life_cmp (life (at_server here server) inc))) tx.parts) refl)
    where
      by : (o : Option Part) → lookup (is_at (life_cmp (life (at_server here server) inc))) tx.parts ≡ o
          → (unwrap_or (lookup (is_at (life_cmp (life (at_server here server) inc))) (changed_value (is_at (life_cmp (life (at_server here server) inc))) (voted_part votes.ReadOnly) tx.parts)) no_part).pending ≡ 0
      by None at = ap (λ (o : Option Part). (unwrap_or o no_part).pending) (changed_none (is_at (life_cmp (life (at_server here server) inc))) (voted_part votes.ReadOnly) tx.parts at)
      by (Some x) at = ap (λ (o : Option Part). (unwrap_or o no_part).pending) (lookup_changed (is_at (life_cmp (life (at_server here server) inc))) (voted_part votes.ReadOnly) tx.parts x at)

  unchanged : HoldsReads here inc tid tx p → rules.has_read rules.files_no (member_of q rules.files_no) ≡ true → (part_of now (at_server here rules.files_no) inc).pending ≡ 0
  unchanged r read = by (server.0 == 0) refl
    where
      by : (b : Bool) → (server.0 == 0) ≡ b → (part_of now (at_server here rules.files_no) inc).pending ≡ 0
      by false is = ap (λ (x : Part). x.pending) (part_apart_is rules.files_no (eqb-false server.0 0 is)) ∙ r.unchanged (ap (rules.has_read rules.files_no) (sym (member_apart rules.files_no (eqb-false server.0 0 is))) ∙ read)
      by true is = let same : server ≡ rules.files_no = same_server rules.files_no is in
          subst (λ (s : ServerNo). (part_of now (at_server here s) inc).pending ≡ 0) same
          (none_pending (reads_as (ap (rules.has_read server) (sym own_member) ∙ subst (λ (s : ServerNo). rules.has_read s (member_of q s) ≡ true) (sym same) read)))

  kept_pending : (v : Vote) → (v ≡ votes.ReadOnly → ⊥) → (x : Part) → (voted_part v x).pending ≡ x.pending
  kept_pending votes.ReadOnly never x = absurd (never refl)
  kept_pending votes.Volatile never x = refl
  kept_pending votes.Recoverable never x = refl
  kept_pending (votes.Abort reason) never x = refl

  pending_on : (part_of tx (at_server here rules.files_no) inc).pending ≤ (part_of now (at_server here rules.files_no) inc).pending
  pending_on = by (server.0 == 0) refl
    where
      of : server ≡ rules.files_no → (v : Vote) → ballot ≡ v → (part_of tx (at_server here rules.files_no) inc).pending ≤ (part_of now (at_server here rules.files_no) inc).pending
      of files votes.ReadOnly is = zero_least _ _ (nothing is files)
      of files votes.Volatile is = eq_ge _ _ (parts_alike (λ (x : Part). x.pending) (life (at_server here server) inc) (voted_part ballot) (kept_pending ballot (λ e. volatile (sym is ∙ e))) tx.parts (at_server here rules.files_no) inc)
        where
          volatile : votes.Volatile ≡ votes.ReadOnly → ⊥
          volatile e = cc e
      of files votes.Recoverable is = eq_ge _ _ (parts_alike (λ (x : Part). x.pending) (life (at_server here server) inc) (voted_part ballot) (kept_pending ballot (λ e. recoverable (sym is ∙ e))) tx.parts (at_server here rules.files_no) inc)
        where
          recoverable : votes.Recoverable ≡ votes.ReadOnly → ⊥
          recoverable e = cc e
      of files (votes.Abort reason) is = eq_ge _ _ (parts_alike (λ (x : Part). x.pending) (life (at_server here server) inc) (voted_part ballot) (kept_pending ballot (λ e. abort (sym is ∙ e))) tx.parts (at_server here rules.files_no) inc)
        where
          abort : votes.Abort reason ≡ votes.ReadOnly → ⊥
          abort e = cc e

      by : (b : Bool) → (server.0 == 0) ≡ b → (part_of tx (at_server here rules.files_no) inc).pending ≤ (part_of now (at_server here rules.files_no) inc).pending
      by false is = eq_ge _ _ (ap (λ (x : Part). x.pending) (part_apart_is rules.files_no (eqb-false server.0 0 is)))
      by true is = of (same_server rules.files_no is) ballot refl

  pub reads_voted : HoldsReads here inc tid tx p → HoldsReads here inc tid now q
  reads_voted r = record {
    readers = λ other other_kept. reader other (server.0 == other.0) refl (r.readers other other_kept);
    unchanged = unchanged r;
    counted = λ count one is. le_le count _ _ (r.counted count one is) pending_on;
  }
