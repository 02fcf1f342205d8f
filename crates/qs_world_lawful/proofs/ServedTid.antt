-- A serve of a member leaves what is held of its transaction at its node.
use Rattle.qs_world_lawful.proofs.Words.{◌≡◌, ◌≢◌, ◌⊎◌, inl, inr, ℕ, ◌+◌, ◌==◌, ◌≤◌, Bool, true, false, List, [], ◌∷◌, Option, Some, None, suc, refl, sym, ap, subst, ◌∙◌, arith, length, unwrap_or, ◌||◌, if◌then◌else◌, filter, lookup, is_at, same_member, Class, Member, NodeNo, ServerNo, Tid, same_member-true, lookup_changed, changed_apart, changed_none, class_of, last_number, peer_of, TransactionValue, life, life_cmp, served_in, serving_part, request_cmp, requests_at, mark_served, is_standing}
use Rattle.qs_world_lawful.proofs.Words.{has_note, Part, Request, RequestNo, member_of, with_member, has_noted, awaits_note, MemberPart, Participant, at_server, HoldsMember, HoldsHome, HoldsTid, false≢true, eqb-true, eqb-false, some_same, and_false, and_first}
use Rattle.qs_base.specs.declared.identifiers.Class.TheVariants as classes
use Rattle.qs_book_machine.specs.Transaction.{part_of, borrower}
use Rattle.qs_book_machine.specs.Clauses.{note_text}
use Rattle.qs_tm.specs.Members as rules
use Rattle.qs_tm.specs.Participant as participant
use Rattle.qs_world_lawful.specs.Face.{Face, is_numbered}
use Rattle.qs_world_lawful.specs.Holds.{is_kept}
use Rattle.qs_world_lawful.proofs.Keys.{KeyApart, same_key_or, request_exact, request_itself, life_itself}
use Rattle.qs_world_lawful.proofs.Parts.{LivesApart, member_like, put_part_apart, same_life_or, aborts_alike, with_own, with_other, set_size}
use Rattle.qs_world_lawful.proofs.Served.{one_more, part_served, served_member}

-- ---- the machine's part

serving_aborted : (c : Class) (stamp : ℕ) (done : Bool) (part : Part) → (serving_part c stamp done part).aborted ≡ part.aborted
serving_aborted classes.Recoverable stamp done part = refl
serving_aborted classes.Volatile stamp done part = refl
serving_aborted classes.Immediate stamp done part = refl
serving_aborted classes.Standard stamp done part = refl
serving_aborted classes.Delayed stamp done part = refl
serving_aborted classes.Activity stamp done part = refl

serving_made : (c : Class) (stamp : ℕ) (done : Bool) (part : Part) → ((serving_part c stamp done part).made ≡ part.made) × ((serving_part c stamp done part).yielded ≡ part.yielded)
serving_made classes.Recoverable stamp done part = (refl, refl)
serving_made classes.Volatile stamp done part = (refl, refl)
serving_made classes.Immediate stamp done part = (refl, refl)
serving_made classes.Standard stamp done part = (refl, refl)
serving_made classes.Delayed stamp done part = (refl, refl)
serving_made classes.Activity stamp done part = (refl, refl)

-- ---- what stands

-- one request less stands at the member
mark_less : (member : Member) (rs : List Request) → 1 ≤ length (filter (is_standing member) rs) → suc (length (filter (is_standing member) (mark_served member rs))) ≡ length (filter (is_standing member) rs)
mark_less member [] some = absurd (none some)
  where
    none : 1 ≤ 0 → ⊥
    none e = grind (arith, e)
mark_less member (r ∷ rs) some = by (is_standing member r) refl (mark_less member rs)
  where
    by : (b : Bool) → is_standing member r ≡ b → (1 ≤ length (filter (is_standing member) rs) → suc (length (filter (is_standing member) (mark_served member rs))) ≡ length (filter (is_standing member) rs))
        → suc (length (filter (is_standing member) (mark_served member (r ∷ rs)))) ≡ length (filter (is_standing member) (r ∷ rs))
    by true is more = rw is (rw (and_false (same_member r.member member)) refl)
    by false is more = rw is (rw is (more (rw is at some)))

-- and as many as before at every other
mark_other : (member other : Member) → member ≢ other → (rs : List Request) → length (filter (is_standing other) (mark_served member rs)) ≡ length (filter (is_standing other) rs)
mark_other member other far [] = refl
mark_other member other far (r ∷ rs) = by (is_standing member r) refl (is_standing other r) refl (mark_other member other far rs)
  where
    clash : is_standing member r ≡ true → is_standing other r ≡ true → ⊥
    clash p q = far (sym (same_member-true r.member member (and_first _ _ p)) ∙ same_member-true r.member other (and_first _ _ q))

    by : (b : Bool) → is_standing member r ≡ b → (c : Bool) → is_standing other r ≡ c → length (filter (is_standing other) (mark_served member rs)) ≡ length (filter (is_standing other) rs)
        → length (filter (is_standing other) (mark_served member (r ∷ rs))) ≡ length (filter (is_standing other) (r ∷ rs))
    by true is true has more = absurd (clash is has)
    by true is false has more = rw (is, has) (rw (and_false (same_member r.member other)) refl)
    by false is true has more = rw is (rw has (ap suc more))
    by false is false has more = rw is (rw has more)

module _ (at : RequestNo) (member : Member) (inc stamp : ℕ) (done : Bool) (tx : TransactionValue) where
  abbrev now : TransactionValue
  now = served_in at member inc stamp done tx

  abbrev listed : Option (List Request) → List Request
  listed o = unwrap_or o []

  pub requests_at_key : requests_at now at ≡ mark_served member (requests_at tx at)
  requests_at_key = by (lookup (is_at (request_cmp at)) tx.requests) refl
    where
      by : (o : Option (List Request)) → lookup (is_at (request_cmp at)) tx.requests ≡ o → requests_at now at ≡ mark_served member (listed o)
      by None is = ap listed (changed_none (is_at (request_cmp at)) (mark_served member) tx.requests is)
      by (Some rs) is = ap listed (lookup_changed (is_at (request_cmp at)) (mark_served member) tx.requests rs is)

  pub requests_apart : (other : RequestNo) → KeyApart request_cmp request_exact request_itself at other → requests_at now other ≡ requests_at tx other
  requests_apart other far = ap listed (changed_apart (is_at (request_cmp at)) (is_at (request_cmp other)) far.keys (mark_served member) tx.requests)

  part_elsewhere : (other : Member) → LivesApart (life member inc) (life other inc) → part_of now other inc ≡ part_of tx other inc
  part_elsewhere other far = put_part_apart (life member inc) _ tx.parts other inc far

  -- what a serve leaves of each member's part
  part_alike : {A : Type 0} (g : Part → A) → ((c : Class) (part : Part) → g (serving_part c stamp done part) ≡ g part) → (other : Member) → g (part_of now other inc) ≡ g (part_of tx other inc)
  part_alike g keeps other = by (same_life_or member other inc)
    where
      by : (member ≡ other) ⊎ LivesApart (life member inc) (life other inc) → g (part_of now other inc) ≡ g (part_of tx other inc)
      by (inl same) = subst (λ (m : Member). g (part_of now m inc) ≡ g (part_of tx m inc)) same (ap g (part_served at tx member inc stamp done) ∙ keeps (class_of member.server.0) (part_of tx member inc))
      by (inr far) = ap g (part_elsewhere other far)

-- ---- all of it

module _ (here : NodeNo) (inc stamp number : ℕ) (from : NodeNo) (server : ServerNo) (done : Bool) (tid : Tid) (tx : TransactionValue) (face : Face) (part : Participant)
    (changes : ℕ) (h : HoldsTid here inc tid tx (record face { known = Some part })) where
  abbrev pub member : Member
  member = at_server here server

  abbrev pub at : RequestNo
  at = record { link = record { from = from; to = here }; number = number }

  abbrev pub after : TransactionValue
  after = served_in at member inc stamp done tx

  abbrev part_after : Participant
  part_after = participant.served server part

  -- the counts of what it served have room
  module _ (room : is_kept server ≡ true → ((member_of part server).served == last_number) ≡ false)
      -- the request left its queue before
      (one : suc (length (filter (is_numbered at) (face.waiting server))) ≤ length (filter (is_standing member) (requests_at tx at)))
      (pending : (part_of after (at_server here rules.files_no) inc).pending ≡ changes)
      (noted : (count : ℕ) → 1 ≤ count → has_note after (record { node = here; inc = inc; text = note_text tid here.0 count }) ≡ true → (has_noted count part ≡ true) ⊎ (awaits_note part ≡ true)) where
    -- the participant but for its members and whether it is involved
    abbrev plain : Participant → Participant
    plain p = record p { members = []; involved = false }

    plain_on : plain part_after ≡ plain part
    plain_on = by ((member_of part server).served == last_number)
      where
        by : (b : Bool) → plain (if b then part else record (with_member server (record (member_of part server) { served = (member_of part server).served + 1; fresh = true }) part) { involved = part.involved || rules.is_told_class (rules.class_here server) }) ≡ plain part
        by true = refl
        by false = refl

    sized_on : length part_after.members ≡ 7
    sized_on = by ((member_of part server).served == last_number)
      where
        by : (b : Bool) → length (if b then part else record (with_member server (record (member_of part server) { served = (member_of part server).served + 1; fresh = true }) part) { involved = part.involved || rules.is_told_class (rules.class_here server) }).members ≡ 7
        by true = h.sized
        by false = set_size server.0 _ part.members ∙ h.sized

    own_on : is_kept server ≡ true → member_of part_after server ≡ one_more (member_of part server)
    own_on kept = by ((member_of part server).served == last_number) (room kept)
      where
        by : (b : Bool) → b ≡ false → member_of (if b then part else record (with_member server (record (member_of part server) { served = (member_of part server).served + 1; fresh = true }) part) { involved = part.involved || rules.is_told_class (rules.class_here server) }) server ≡ one_more (member_of part server)
        by true is = absurd (cc is)
        by false is = with_own server (one_more (member_of part server)) part h.sized kept

    other_on : (other : ServerNo) → server.0 ≢ other.0 → member_of part_after other ≡ member_of part other
    other_on other far = by ((member_of part server).served == last_number)
      where
        by : (b : Bool) → member_of (if b then part else record (with_member server (record (member_of part server) { served = (member_of part server).served + 1; fresh = true }) part) { involved = part.involved || rules.is_told_class (rules.class_here server) }) other ≡ member_of part other
        by true = refl
        by false = with_other server other (one_more (member_of part server)) part far

    members_on : (other : ServerNo) → is_kept other ≡ true → HoldsMember after (at_server here other) inc (member_of part_after other)
    members_on other kept = by (server.0 == other.0) refl
      where
        same_is : (a b : ServerNo) → (a.0 == b.0) ≡ true → a ≡ b
        same_is a b e = ap (λ (n : ℕ). record { 0 = n }) (eqb-true a.0 b.0 e)

        apart : server.0 ≢ other.0 → LivesApart (life member inc) (life (at_server here other) inc)
        apart far = of (same_life_or member (at_server here other) inc)
          where
            of : (member ≡ at_server here other) ⊎ LivesApart (life member inc) (life (at_server here other) inc) → LivesApart (life member inc) (life (at_server here other) inc)
            of (inl same) = absurd (far (ap (λ (m : Member). m.server.0) same))
            of (inr yes_it) = yes_it

        by : (b : Bool) → (server.0 == other.0) ≡ b → HoldsMember after (at_server here other) inc (member_of part_after other)
        by true is =
            subst (λ (s : ServerNo). is_kept s ≡ true → HoldsMember after (at_server here s) inc (member_of part_after s)) (same_is server other is)
            (λ k. subst (λ (m : MemberPart). HoldsMember after member inc m) (sym (own_on k)) (served_member at tx member inc stamp done (member_of part server) (h.members refl server k))) kept
        by false is =
            let far : server.0 ≢ other.0 = eqb-false server.0 other.0 is in
            subst (λ (m : MemberPart). HoldsMember after (at_server here other) inc m) (sym (other_on other far))
            (member_like tx after (at_server here other) inc (member_of part other) (part_elsewhere at member inc stamp done tx (at_server here other) (apart far)) (λ served covers. refl) (h.members refl other kept))

    queued_on : (other : ServerNo) (key : RequestNo) → key.link.to ≡ here → length (filter (is_numbered key) (face.waiting other)) ≤ length (filter (is_standing (at_server here other)) (requests_at after key))
    queued_on other key near = by (same_key_or request_cmp request_exact request_itself at key)
      where
        fewer : (a b c : ℕ) → suc a ≤ c → suc b ≡ c → a ≤ b
        fewer a b c p q = grind (arith, p, q)

        one_at_least : (a c : ℕ) → suc a ≤ c → 1 ≤ c
        one_at_least a c p = grind (arith, p)

        at_own : length (filter (is_numbered at) (face.waiting server)) ≤ length (filter (is_standing member) (requests_at after at))
        at_own = rw (requests_at_key at member inc stamp done tx) (fewer _ _ _ one (mark_less member (requests_at tx at) (one_at_least _ _ one)))

        at_key : length (filter (is_numbered at) (face.waiting other)) ≤ length (filter (is_standing (at_server here other)) (requests_at after at))
        at_key = of (same_life_or member (at_server here other) inc)
          where
            of : (member ≡ at_server here other) ⊎ LivesApart (life member inc) (life (at_server here other) inc) → length (filter (is_numbered at) (face.waiting other)) ≤ length (filter (is_standing (at_server here other)) (requests_at after at))
            of (inl same) = subst (λ (s : ServerNo). length (filter (is_numbered at) (face.waiting s)) ≤ length (filter (is_standing (at_server here s)) (requests_at after at))) (ap (λ (m : Member). m.server) same) at_own
            of (inr apart) = rw (requests_at_key at member inc stamp done tx, mark_other member (at_server here other) (λ e. lives_clash e apart) (requests_at tx at)) (h.queued other at refl)
              where
                lives_clash : member ≡ at_server here other → LivesApart (life member inc) (life (at_server here other) inc) → ⊥
                lives_clash e far = false≢true (sym (subst (λ (m : Member). is_at (life_cmp (life m inc)) (life member inc) ≡ false) (sym e) far.at) ∙ itself)
                  where
                    itself : is_at (life_cmp (life member inc)) (life member inc) ≡ true
                    itself = rw (life_itself (life member inc)) refl

        by : (at ≡ key) ⊎ KeyApart request_cmp request_exact request_itself at key → length (filter (is_numbered key) (face.waiting other)) ≤ length (filter (is_standing (at_server here other)) (requests_at after key))
        by (inl same) = subst (λ (k : RequestNo). length (filter (is_numbered k) (face.waiting other)) ≤ length (filter (is_standing (at_server here other)) (requests_at after k))) same at_key
        by (inr far) = rw (requests_apart at member inc stamp done tx key far) (h.queued other key near)

    home_on : HoldsHome tx (Some part) → HoldsHome after (Some part_after)
    home_on k = record {
      runs = λ is. refl;
      undecided = λ p same unknown. k.undecided part refl (sym (ap (λ (q : Participant). q.outcome) plain_on) ∙ (ap (λ (q : Participant). q.outcome) (some_same same) ∙ unknown));
      asked = λ p same still. k.asked part refl still ∙ (sym (ap (λ (q : Participant). q.asked) plain_on) ∙ ap (λ (q : Participant). q.asked) (some_same same));
    }

    pub served_tid : HoldsTid here inc tid after (record face { known = Some part_after; changes = changes })
    served_tid = record {
      sized = sized_on;
      members = λ held other kept. members_on other kept;
      asked = λ is. h.asked (sym (ap (λ (q : Participant). q.asked) plain_on) ∙ is);
      outcome = λ o is. h.outcome o (sym (ap (λ (q : Participant). q.outcome) plain_on) ∙ is);
      silent = λ is. ap (λ (q : Participant). q.outcome) plain_on ∙ h.silent (sym (aborts_alike tx after here inc (part_alike at member inc stamp done tx (λ (p : Part). p.aborted) (λ c p. serving_aborted c stamp done p))) ∙ is);
      local = h.local;
      sent = λ held peer far. h.sent refl peer far ∙ sym (ap (λ (q : Participant). (peer_of q.engage peer).sent) plain_on);
      pending = pending;
      noted = λ held count some is. noted_as count (noted count some is);
      queued = queued_on;
      made = λ client small. part_alike at member inc stamp done tx (λ (p : Part). p.made) (λ c p. (serving_made c stamp done p).0) (borrower client here) ∙ h.made client small;
      yielded = λ client small. part_alike at member inc stamp done tx (λ (p : Part). p.yielded) (λ c p. (serving_made c stamp done p).1) (borrower client here) ∙ h.yielded client small;
      home = λ near in_inc. home_on (h.home near in_inc);
    }
      where
        noted_as : (count : ℕ) → (has_noted count part ≡ true) ⊎ (awaits_note part ≡ true) → (has_noted count part_after ≡ true) ⊎ (awaits_note part_after ≡ true)
        noted_as count (inl is) = inl (ap (has_noted count) plain_on ∙ is)
        noted_as count (inr is) = inr (ap awaits_note plain_on ∙ is)
