-- The servers whose votes are due vote one after the other, and files issue their note in its place.
use Rattle.qs_world_refine.proofs.Words.{◌≡◌, ℕ, ◌+◌, ◌≤◌, ◌==◌, ◌&&◌, not, nat_lt, Bool, true, false, List, [], ◌∷◌, Option, Some, None, is_some, fold, refl, sym, subst, ap, ◌∙◌, arith, if◌then◌else◌, nat_tests, NodeNo, ServerNo, Tid, next_sent, same_node, Delivery, vote_of, Op, Note, Vote, server_at, audit_no, files_no, Outstanding, Participant, next_number, issue_as, issue_here, issue_away, Work, here, owes_note, issue_note, vote_next, vote_with, vote_frame, note_text, change_count, is_audit}
use Rattle.qs_world_refine.proofs.Words.{IsLawful, Scene, ShowsWork, Goes}
use Rattle.qs_tm.specs.Manager as tm
use Rattle.qs_tm.specs.Participant.{has_noted}
use Rattle.qs_node_step.specs.Requests.{next_local}
use Rattle.qs_world_agree.specs.World.{World}
use Rattle.qs_world_refine.proofs.Facts.{lawful_on}
use Rattle.qs_world_refine.proofs.IssueAway.{issued_part}
use Rattle.qs_world_refine.proofs.Keeping.{nothing_goes}
use Rattle.qs_world_refine.proofs.Known.{told_is}
use Rattle.qs_world_refine.proofs.IssueOut.{away_goes}
use Rattle.qs_world_refine.proofs.PassAway.{away_passing}
use Rattle.qs_world_refine.proofs.PassBeside.{Beside, beside_begins, ballot_same, beside_votes, note_goes}
use Rattle.qs_world_refine.proofs.PassDue.{IsDue, AreDue, due_still}
use Rattle.qs_world_refine.proofs.PassVotes.{Passing, vote_goes, part_after, voted_passing, still_left}
use Rattle.qs_world_refine.proofs.Same.{tid_same}
use Rattle.qs_world_refine.proofs.SendGoes.{goes_on}

-- only files owe notes
not_owed : (tid : Tid) (server : ServerNo) (work : Work) → 1 ≤ server.0 → owes_note tid server work ≡ false
not_owed tid server work above = off (server.0 == files_no.0) (grind (arith, nat_tests, above)) (is_some work.node.setting.audit) (nat_lt 0 (change_count tid work.node) && not (tm.told_of tid false (has_noted (change_count tid work.node)) work.node.manager))
  where
    off : (a : Bool) → a ≡ false → (b c : Bool) → ((a && b) && c) ≡ false
    off a is b c = rw is refl

-- the vote of a server that owes no note
abbrev voting : Tid → Work → ServerNo → Work
voting tid work server = vote_with tid server (vote_of (server_at work.node.servers server) tid work.room (vote_frame work)) work

next_votes : (tid : Tid) (work : Work) (server : ServerNo) → owes_note tid server work ≡ false → vote_next tid work server ≡ voting tid work server
next_votes tid work server owes = ap (λ (b : Bool). if b then issue_note tid work.node.setting.audit work else vote_with tid server (vote_of (server_at work.node.servers server) tid work.room (vote_frame work)) work) owes

-- ---- beside a node without the note

record StaysBeside (tid : Tid) (scene : Scene) (n : ℕ) (request : Outstanding) (d : Delivery) (work bare : Work) : Type 0 where
  part : Participant
  same : Beside tid request d work bare part
  passing : Passing tid scene n bare part

module _ (tid : Tid) (scene : Scene) (n : ℕ) (request : Outstanding) (d : Delivery) where
  stays_beside : (list : List ServerNo) (k : ℕ) → 1 ≤ k → (work bare : Work) (part : Participant) → Beside tid request d work bare part → Passing tid scene n bare part → AreDue part k list
      → StaysBeside tid scene n request d (fold (vote_next tid) work list) (fold (vote_next tid) bare list)
  stays_beside [] k above work bare part same passing dues = record { part = part; same = same; passing = passing }
  stays_beside (s ∷ rest) k above work bare part same passing dues =
      rw (next_votes tid work s (not_owed tid s work (omega (arith, above, dues.0))), next_votes tid bare s (not_owed tid s bare (omega (arith, above, dues.0))), ballot_same tid request d work bare part same s.0)
      (stays_beside rest (s.0 + 1) (omega arith) (vote_with tid s ballot work) (vote_with tid s ballot bare) (part_after tid s.0 ballot bare part)
      (beside_votes tid request d work bare part same s.0 ballot) (voted_passing tid scene n s.0 bare part passing dues.1.0 ballot)
      (due_still part (part_after tid s.0 ballot bare part) (s.0 + 1) rest (still_left tid scene n s.0 bare part passing dues.1.0 ballot) dues.1.1))
    where
      ballot : Vote
      ballot = vote_of (server_at bare.node.servers s) tid bare.room (vote_frame bare)

-- ---- one, and then the rest

module _ (tid : Tid) (scene : Scene) (n : ℕ) (s : ServerNo) (rest : List ServerNo)
    (more : (work : Work) (part : Participant) (w : World) → Passing tid scene n work part → AreDue part (s.0 + 1) rest → IsLawful w → ShowsWork tid scene n work w → Goes tid scene n (fold (vote_next tid) work rest) w)
    (work : Work) (part : Participant) (w : World) (is : Passing tid scene n work part) (due : IsDue part s.0) (dues : AreDue part (s.0 + 1) rest) (lawful : IsLawful w) (shown : ShowsWork tid scene n work w) where
  votes : Goes tid scene n (fold (vote_next tid) (voting tid work s) rest) w
  votes =
      let first = vote_goes tid scene n s.0 work part is due work.room (vote_frame work) w shown in
      goes_on tid scene n (fold (vote_next tid) (voting tid work s) rest) w first.next first.leads
      (more (voting tid work s) (part_after tid s.0 ballot work part) first.next (voted_passing tid scene n s.0 work part is due ballot)
      (due_still part (part_after tid s.0 ballot work part) (s.0 + 1) rest (still_left tid scene n s.0 work part is due ballot) dues) (lawful_on w first.next lawful first.leads) first.shown)
    where
      ballot : Vote
      ballot = vote_of (server_at work.node.servers s) tid work.room (vote_frame work)

  module _ (node : NodeNo) (audited : work.node.setting.audit ≡ Some node) where
    abbrev op : Op
    op = Note (note_text tid (here work) (change_count tid work.node))

    abbrev request : ℕ → Outstanding
    request number = record { issuer = files_no; member = record { node = node; server = audit_no }; number = number; count = change_count tid work.node }

    away : (number : ℕ) → same_node node (here work) ≡ false → next_number tid node work ≡ Some number → Goes tid scene n (fold (vote_next tid) (issue_away tid (request number) op work) rest) w
    away number other numbered =
        let first = away_goes tid scene n (request number) op work part w is.at is.knows is.undecided is.on lawful shown within other (sent_number other numbered) in
        goes_on tid scene n (fold (vote_next tid) (issue_away tid (request number) op work) rest) w first.next first.leads
        (more (issue_away tid (request number) op work) (issued_part tid (request number) part) first.next (away_passing tid scene n (request number) op work part is)
        (due_still part (issued_part tid (request number) part) (s.0 + 1) rest (λ r _. refl) dues) (lawful_on w first.next lawful first.leads) first.shown)
      where
        within : nat_lt node.0 work.node.setting.nodes ≡ true
        within = subst (λ (o : Option NodeNo). is_audit work.node.setting.nodes o ≡ true) audited is.audit

        sent_number : same_node node (here work) ≡ false → next_number tid node work ≡ Some number → next_sent node part.engage ≡ Some number
        sent_number other numbered =
            sym (told_is tid None (λ part. next_sent node part.engage) work.node.manager part is.knows.known)
            ∙ (sym (ap (λ (b : Bool). if b then next_local tid work.node else tm.sent_as tid node work.node.manager) other) ∙ numbered)

    local : (number : ℕ) → Goes tid scene n (fold (vote_next tid) (issue_here tid (request number) op work) rest) w
    local number =
        let bare = more work part w is dues lawful shown in
        goes_on tid scene n (fold (vote_next tid) (issue_here tid (request number) op work) rest) w bare.next bare.leads
        (note_goes tid scene n (request number) d (fold (vote_next tid) (issue_here tid (request number) op work) rest) (fold (vote_next tid) work rest) beside.part bare.next beside.same
        beside.passing.at (tid_same tid) beside.passing.undecided beside.passing.on bare.shown)
      where
        d : Delivery
        d = record { tid = tid; from = here work; number = number; op = op; stale = false }

        beside : StaysBeside tid scene n (request number) d (fold (vote_next tid) (issue_here tid (request number) op work) rest) (fold (vote_next tid) work rest)
        beside = stays_beside tid scene n (request number) d rest (s.0 + 1) (omega arith) (issue_here tid (request number) op work) work part
            (beside_begins tid (request number) op work part refl is.knows.known) is dues

    numbered : (o : Option ℕ) → next_number tid node work ≡ o → Goes tid scene n (fold (vote_next tid) (elim o [ None ↦ work | Some number ↦ issue_as tid (request number) op work ]) rest) w
    numbered None none = more work part w is dues lawful shown
    numbered (Some number) some = placed (same_node node (here work)) refl
      where
        placed : (b : Bool) → same_node node (here work) ≡ b → Goes tid scene n (fold (vote_next tid) (if b then issue_here tid (request number) op work else issue_away tid (request number) op work) rest) w
        placed true its = local number
        placed false other = away number other some

  noted : (o : Option NodeNo) → work.node.setting.audit ≡ o → Goes tid scene n (fold (vote_next tid) (issue_note tid o work) rest) w
  noted None none = more work part w is dues lawful shown
  noted (Some node) audited = numbered node audited (next_number tid node work) refl

  pub next_goes : Goes tid scene n (fold (vote_next tid) (vote_next tid work s) rest) w
  next_goes = by (owes_note tid s work)
    where
      by : (b : Bool) → Goes tid scene n (fold (vote_next tid) (if b then issue_note tid work.node.setting.audit work else vote_with tid s (vote_of (server_at work.node.servers s) tid work.room (vote_frame work)) work) rest) w
      by true = noted work.node.setting.audit refl
      by false = votes

pub pass_goes : (tid : Tid) (scene : Scene) (n : ℕ) (list : List ServerNo) (k : ℕ) (work : Work) (part : Participant) (w : World) → Passing tid scene n work part → AreDue part k list → IsLawful w → ShowsWork tid scene n work w
    → Goes tid scene n (fold (vote_next tid) work list) w
pass_goes tid scene n [] k work part w is dues lawful shown = nothing_goes tid scene n work w shown
pass_goes tid scene n (s ∷ rest) k work part w is dues lawful shown = next_goes tid scene n s rest (pass_goes tid scene n rest (s.0 + 1)) work part w is dues.1.0 dues.1.1 lawful shown
