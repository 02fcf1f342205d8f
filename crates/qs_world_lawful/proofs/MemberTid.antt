-- A vote, an ending, and a notice of a server leave what is held of its transaction at its node.
use Rattle.qs_world_lawful.proofs.Words.{◌≡◌, ◌≢◌, ◌⊎◌, inl, inr, ℕ, ◌+◌, ◌==◌, ◌≤◌, Bool, true, false, [], Some, refl, sym, ap, subst, ◌∙◌, arith, length, nat_lt, nat_tests, is_some, filter, list_any, ClientNo, Member, NodeNo, ServerNo, Tid, peer_of, TransactionValue, life, is_start, is_open, is_outcome, sent_in, sent_on, requests_at, is_standing, has_note, learnt_abort, Cell, Part, member_of, has_noted, awaits_note, MemberPart, Participant, at_server, HoldsMember, HoldsHome, HoldsTid, eqb-true}
use Rattle.qs_world_lawful.proofs.Words.{eqb-false, some_same}
use Rattle.qs_base.specs.declared.identifiers.Outcome.TheVariants as outcomes
use Rattle.qs_book_machine.specs.Transaction.{part_of, borrower}
use Rattle.qs_book_machine.specs.Clauses.{note_text}
use Rattle.qs_tm.specs.Members as rules
use Rattle.qs_world_lawful.specs.Face.{Face, is_numbered}
use Rattle.qs_world_lawful.specs.Holds.{is_kept}
use Rattle.qs_world_lawful.proofs.Bare.{bare}
use Rattle.qs_world_lawful.proofs.Parts.{LivesApart, member_like, same_life_or}

-- the machine's transaction but for what its members did
abbrev pub rest_of : TransactionValue → TransactionValue
rest_of tx = record tx { parts = []; starts = []; refusals = []; learnt = [] }

-- the participant but for its members, and for what nothing is held of
abbrev pub plain : Participant → Participant
plain part = record (bare part) { members = [] }

-- a life that is turned round is apart too
abbrev pub IsOther : ServerNo → ServerNo → Type 0
IsOther server other = server.0 ≢ other.0

pub lives_apart : (here : NodeNo) (inc : ℕ) (server other : ServerNo) → IsOther server other → LivesApart (life (at_server here server) inc) (life (at_server here other) inc)
lives_apart here inc server other far = of (same_life_or (at_server here server) (at_server here other) inc)
  where
    of : (at_server here server ≡ at_server here other) ⊎ LivesApart (life (at_server here server) inc) (life (at_server here other) inc) → LivesApart (life (at_server here server) inc) (life (at_server here other) inc)
    of (inl same) = absurd (far (ap (λ (m : Member). m.server.0) same))
    of (inr apart) = apart

-- a client's life is apart from that of a server
pub client_apart : (here : NodeNo) (inc : ℕ) (server : ServerNo) (client : ClientNo) → is_kept server ≡ true → LivesApart (life (at_server here server) inc) (life (borrower client here) inc)
client_apart here inc server client kept = by (same_life_or (at_server here server) (borrower client here) inc)
  where
    no : (k n : ℕ) → n ≡ k + 32 → nat_lt n 7 ≡ true → ⊥
    no k n e is = grind (arith, nat_tests, e, is)

    by : (at_server here server ≡ borrower client here) ⊎ LivesApart (life (at_server here server) inc) (life (borrower client here) inc) → LivesApart (life (at_server here server) inc) (life (borrower client here) inc)
    by (inl same) = absurd (no client.0 server.0 (ap (λ (m : Member). m.server.0) same) kept)
    by (inr far) = far

module _ (here : NodeNo) (inc : ℕ) (tid : Tid) (tx now : TransactionValue) (face : Face) (part after : Participant) (server : ServerNo) (changes : ℕ)
    (h : HoldsTid here inc tid tx (record face { known = Some part })) (kept : is_kept server ≡ true)
    (rest : rest_of now ≡ rest_of tx) (as_plain : plain after ≡ plain part) (size : length after.members ≡ length part.members)
    (parts : (other : Member) → LivesApart (life (at_server here server) inc) (life other inc) → part_of now other inc ≡ part_of tx other inc)
    (starts : (other : ServerNo) → IsOther server other → (served covers : ℕ) → list_any (is_start (at_server here other) inc served covers) now.starts ≡ list_any (is_start (at_server here other) inc served covers) tx.starts)
    (own : HoldsMember now (at_server here server) inc (member_of after server))
    (others : (other : ServerNo) → IsOther server other → member_of after other ≡ member_of part other)
    (silent : learnt_abort now here inc ≡ true → part.outcome ≡ Some outcomes.Abort)
    (pending : (part_of now (at_server here rules.files_no) inc).pending ≡ changes) where
  members_on : (other : ServerNo) → is_kept other ≡ true → HoldsMember now (at_server here other) inc (member_of after other)
  members_on other its = by (server.0 == other.0) refl
    where
      same_is : (a b : ServerNo) → (a.0 == b.0) ≡ true → a ≡ b
      same_is a b e = ap (λ (n : ℕ). record { 0 = n }) (eqb-true a.0 b.0 e)

      by : (b : Bool) → (server.0 == other.0) ≡ b → HoldsMember now (at_server here other) inc (member_of after other)
      by true is = subst (λ (s : ServerNo). HoldsMember now (at_server here s) inc (member_of after s)) (same_is server other is) own
      by false is =
          let far : IsOther server other = eqb-false server.0 other.0 is in
          subst (λ (m : MemberPart). HoldsMember now (at_server here other) inc m) (sym (others other far))
          (member_like tx now (at_server here other) inc (member_of part other) (parts (at_server here other) (lives_apart here inc server other far)) (starts other far) (h.members refl other its))

  home_on : HoldsHome tx (Some part) → HoldsHome now (Some after)
  home_on k = record {
    runs = λ is. refl;
    undecided = λ p same unknown. subst (λ (c : Cell). is_open c ≡ true) (sym cell_is) (k.undecided part refl (sym (ap (λ (q : Participant). q.outcome) as_plain) ∙ (ap (λ (q : Participant). q.outcome) (some_same same) ∙ unknown)));
    asked = λ p same still. ap (λ (x : TransactionValue). is_some x.asked) rest
        ∙ (k.asked part refl (subst (λ (c : Cell). is_open c ≡ true) cell_is still) ∙ (sym (ap (λ (q : Participant). q.asked) as_plain) ∙ ap (λ (q : Participant). q.asked) (some_same same)));
  }
    where
      cell_is : now.cell ≡ tx.cell
      cell_is = ap (λ (x : TransactionValue). x.cell) rest

  pub member_tid : HoldsTid here inc tid now (record face { known = Some after; changes = changes })
  member_tid = record {
    sized = size ∙ h.sized;
    members = λ held other its. members_on other its;
    asked = λ is. ap (λ (x : TransactionValue). is_some x.asked) rest ∙ h.asked (sym (ap (λ (q : Participant). q.asked) as_plain) ∙ is);
    outcome = λ o is. ap (λ (x : TransactionValue). is_outcome o x.cell) rest ∙ h.outcome o (sym (ap (λ (q : Participant). q.outcome) as_plain) ∙ is);
    silent = λ is. ap (λ (q : Participant). q.outcome) as_plain ∙ silent is;
    local = ap (λ (x : TransactionValue). sent_in inc (sent_on x (record { from = here; to = here }))) rest ∙ h.local;
    sent = λ held peer far. ap (λ (x : TransactionValue). sent_in inc (sent_on x (record { from = here; to = peer }))) rest ∙ (h.sent refl peer far ∙ sym (ap (λ (q : Participant). (peer_of q.engage peer).sent) as_plain));
    pending = pending;
    noted = λ held count some is. noted_as count (h.noted refl count some (sym (ap (λ (x : TransactionValue). has_note x (record { node = here; inc = inc; text = note_text tid here.0 count })) rest) ∙ is));
    queued = λ other at near. subst (λ (x : TransactionValue). length (filter (is_numbered at) (face.waiting other)) ≤ length (filter (is_standing (at_server here other)) (requests_at x at))) (sym rest) (h.queued other at near);
    made = λ client small. ap (λ (p : Part). p.made) (parts (borrower client here) (client_apart here inc server client kept)) ∙ h.made client small;
    yielded = λ client small. ap (λ (p : Part). p.yielded) (parts (borrower client here) (client_apart here inc server client kept)) ∙ h.yielded client small;
    home = λ near in_inc. home_on (h.home near in_inc);
  }
    where
      noted_as : (count : ℕ) → (has_noted count part ≡ true) ⊎ (awaits_note part ≡ true) → (has_noted count after ≡ true) ⊎ (awaits_note after ≡ true)
      noted_as count (inl is) = inl (ap (has_noted count) as_plain ∙ is)
      noted_as count (inr is) = inr (ap awaits_note as_plain ∙ is)
