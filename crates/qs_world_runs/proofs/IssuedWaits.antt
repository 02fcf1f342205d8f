-- What a rule issues to another node waits once it is done, where its node is engaged as it issues; and what was entered before waits on.
use Rattle.qs_world_runs.proofs.Words.{◌≡◌, ◌⊎◌, inl, inr, ℕ, ◌&&◌, not, is_some, Bool, true, false, List, [], ◌∷◌, ◌++◌, Option, Some, None, refl, sym, ap, subst, if◌then◌else◌, Member, Tid, same_node, Delivery, Act, Op, Message, is_other, member_here, send, ask_on, enter_issue, is_asked, issue_as, issue_away, issue_here, label_of, with_local, Work, here, with_manager, with_queues, Setting, Outstanding, Participant, is_undecided, is_engaged, Among, IsWaiting}
use Rattle.qs_ipc.specs.Ipc as ipc
use Rattle.qs_ipc.specs.Queue.{is_for}
use Rattle.qs_book_journal.specs.declared.entry.Act.TheVariants as acts
use Rattle.qs_packet.specs.declared.message.Message.TheVariants as messages
use Rattle.qs_node_step.specs.State.{part_of}
use Rattle.qs_tm.specs.Manager as tm
use Rattle.qs_world_refine.proofs.HomeAborts.{none_is}
use Rattle.qs_world_refine.proofs.SoundHolds.{is_held, is_open, told_part}
use Rattle.qs_world_refine.proofs.SoundParts.{and_both}
use Rattle.qs_world_runs.specs.Awaited.{HoldsIt}
use Rattle.qs_world_runs.proofs.AwaitedIssued.{issues_wait}
use Rattle.qs_world_runs.proofs.AwaitedRules.{On}
use Rattle.qs_world_runs.proofs.IssuedNone.{Has, IssuesNone, among_either, the_issue}

-- ---- a request is entered, and nothing else, as it is issued

same_entries : (es : List Act) (b : Bool) (x y : Work) → x.out.entries ≡ es → y.out.entries ≡ es → (if b then x else y).out.entries ≡ es
same_entries es true x y p q = p
same_entries es false x y p q = q

pub issued_entries : (tid : Tid) (request : Outstanding) (op : Op) (work : Work) → (issue_as tid request op work).out.entries ≡ work.out.entries ++ acts.Issue tid (member_here work request.issuer) request.member request.number op ∷ []
issued_entries tid request op work = same_entries es (same_node request.member.node (here work)) (issue_here tid request op work) (issue_away tid request op work)
    (same_entries es (is_for request.member.server op) (with_queues (ipc.enqueue request.member.server delivery) counted) counted refl refl)
    (asks (is_asked tid work) (sends (is_other work.node.setting request.member.node)))
  where
    es : List Act
    es = work.out.entries ++ acts.Issue tid (member_here work request.issuer) request.member request.number op ∷ []

    delivery : Delivery
    delivery = record { tid = tid; from = here work; number = request.number; op = op; stale = false }

    counted : Work
    counted = with_local tid request.number (enter_issue tid request op work)

    message : Message
    message = messages.Request tid (label_of tid work.node) request.member request.number request.issuer op

    made : Work
    made = with_manager (tm.sent tid request.member.node) (enter_issue tid request op work)

    sends : (b : Bool) → (if b then record made { out = record made.out { messages = made.out.messages ++ record { to = request.member.node; message = message } ∷ [] } } else made).out.entries ≡ es
    sends true = refl
    sends false = refl

    asked : (b : Bool) (w : Work) → w.out.entries ≡ es → (if b then record w { out = record w.out { messages = w.out.messages ++ record { to = request.member.node; message = messages.AskVote tid } ∷ [] } } else w).out.entries ≡ es
    asked true w is = is
    asked false w is = is

    asks : (b : Bool) → (send request.member.node message made).out.entries ≡ es → (ask_on b tid request.member.node (send request.member.node message made)).out.entries ≡ es
    asks false is = is
    asks true is = asked (is_other (send request.member.node message made).node.setting request.member.node) (send request.member.node message made) is

-- ---- as it is issued its node is engaged

pub record IsOpenHere (tid : Tid) (work : Work) : Type 0 where
  pub part : Participant
  pub known : part_of tid work ≡ Some part
  pub undecided : part.outcome ≡ None
  pub engaged : is_engaged part ≡ true

pub open_here : (tid : Tid) (work : Work) → tm.told_of tid false is_open work.node.manager ≡ true → IsOpenHere tid work
open_here tid work is = by (part_of tid work) refl
  where
    at : (h u s : Bool) → u ≡ true → not (not h && (u && not (if h then u else s))) ≡ true → (if h then u else s) ≡ true
    at true u s open_now held = open_now
    at false true true open_now held = refl
    at false true false open_now held = absurd (cc held)
    at false false s open_now held = absurd (cc open_now)

    of : (part : Participant) → part_of tid work ≡ Some part → (is_undecided part ≡ true) × (is_held part ≡ true) → IsOpenHere tid work
    of part known both = record { part = part; known = known; undecided = none_is part both.0; engaged = at part.engage.home (is_undecided part) (is_some part.engage.superior) both.0 both.1 }

    by : (o : Option Participant) → part_of tid work ≡ o → IsOpenHere tid work
    by None none = absurd (let never : tm.told_of tid false is_open work.node.manager ≡ false = ap (λ (o : Option Participant). elim o [ None ↦ false | Some p ↦ is_open p ]) none in cc (never, is))
    by (Some part) known = of part known (and_both (is_undecided part) (is_held part) (told_part is_open tid work.node.manager part known is))

pub record IsReady (tid : Tid) (request : Outstanding) (work : Work) : Type 0 where
  pub part : Participant
  pub known : part_of tid work ≡ Some part
  pub undecided : part.outcome ≡ None
  pub engaged : is_engaged part ≡ true
  pub holds : HoldsIt tid request part work

-- its member is at another node
abbrev pub IsAway : Member → Work → Type 0
IsAway member work = same_node member.node (here work) ≡ false

pub still_away : (member : Member) (work new : Work) → new.node.setting ≡ work.node.setting → IsAway member work → IsAway member new
still_away member work new same = subst (λ (s : Setting). same_node member.node s.node ≡ false) (sym same)

module _ (tid : Tid) (issuer member : Member) (number : ℕ) (op : Op) where
  abbrev pub Had : Work → Type 0
  Had work = Has tid issuer member number op work

  abbrev pub W : Work → Type 0
  W work = IsWaiting tid member number work.node

  abbrev pub L : Work → Work → Type 0
  L work new = On ⊥ tid member number work new

  -- it was entered before, or waits then
  abbrev pub Waited : Work → Work → Type 0
  Waited work new = Had new → Had work ⊎ W new

  pub waited_none : (work new : Work) → IssuesNone tid issuer member number op work new → Waited work new
  waited_none work new none has = inl (none has)

  pub waits_then : (work new : Work) → L work new → W work → W new
  waits_then work new on w = by (on w)
    where
      by : W new ⊎ ⊥ → W new
      by (inl v) = v
      by (inr none) = absurd none

  pub waited_then : (a b c : Work) → Waited a b → Waited b c → L b c → Waited a c
  waited_then a b c p q on has = by (q has)
    where
      before : Had a ⊎ W b → Had a ⊎ W c
      before (inl had) = inl had
      before (inr w) = inr (waits_then b c on w)

      by : Had b ⊎ W c → Had a ⊎ W c
      by (inl had) = before (p had)
      by (inr w) = inr w

  pub waited_if : (b : Bool) (x y work : Work) → (b ≡ true → Waited work x) → (b ≡ false → Waited work y) → Waited work (if b then x else y)
  waited_if true x y work p q = p refl
  waited_if false x y work p q = q refl

  pub waited_issued : (request : Outstanding) (o : Op) (work : Work) → IsAway member work → IsReady tid request work → Waited work (issue_as tid request o work)
  waited_issued request o work away ready has = by (among_either the work.out.entries (now ∷ []) (subst (λ (es : List Act). Among the es) (issued_entries tid request o work) has))
    where
      the : Act
      the = the_issue tid issuer member number op

      now : Act
      now = acts.Issue tid (member_here work request.issuer) request.member request.number o

      to_member : (a b c d : Member) (k l : ℕ) (p q : Op) → acts.Issue tid a b k p ≡ acts.Issue tid c d l q → (b ≡ d) × (k ≡ l)
      to_member a b c d k l p q is = (cc is, cc is)

      its : the ≡ now → W (issue_as tid request o work)
      its is = let same : (member ≡ request.member) × (number ≡ request.number) = to_member issuer member (member_here work request.issuer) request.member number request.number op o is in
          subst (λ (m : Member). IsWaiting tid m number (issue_as tid request o work).node) (sym same.0) (subst (λ (k : ℕ). IsWaiting tid request.member k (issue_as tid request o work).node) (sym same.1)
          (issues_wait tid request o work ready.part ready.known ready.undecided ready.engaged (subst (λ (m : Member). same_node m.node (here work) ≡ false) same.0 away) ready.holds))

      by : Had work ⊎ Among the (now ∷ []) → Had work ⊎ W (issue_as tid request o work)
      by (inl had) = inl had
      by (inr (inl is)) = inr (its is)
      by (inr (inr none)) = absurd none
