-- A Told comes to the home's node, which knows abort: Take_names for each name, then Tell_abort for each new one.
use Rattle.qs_world_refine.proofs.Words.{◌≡◌, inl, inr, ℕ, ◌<◌, ◌==◌, ◌&&◌, ◌||◌, not, Bool, true, false, List, [], ◌∷◌, Option, Some, None, length, refl, sym, subst, ap, ◌∙◌, arith, if◌then◌else◌, is_at, eqb-true, nat_tests, length-set, tid_cmp, NodeNo, Tid, no_nodes, same_node, joined, without, listed, Nodes, Message, new_names, Participant, send_each, Work, here, part_of, with_manager, message_came, told_unknown, told_known, Aborted, Face, ShowsFace, telling_face, Said, Taken_in, link, IsLink}
use Rattle.qs_world_refine.proofs.Words.{node_no, names_node, all_said, face, face_at, place, Runs, sight_faced, Scene, sight_during, ShowsWork, handed, Sight, ShowsSight, IsAt, IsNext, Goes, leads_on, or-false, and_first}
use Rattle.qs_base.specs.declared.identifiers.Outcome.{Outcome}
use Rattle.qs_base.specs.declared.identifiers.Outcome.TheVariants as outcomes
use Rattle.qs_engage.specs.Nodes.{all_nodes, has_node}
use Rattle.qs_packet.specs.declared.message.Message.TheVariants as messages
use Rattle.qs_tm.specs.Manager as tm
use Rattle.qs_tm.specs.Outcomes as outcome_rules
use Rattle.qs_world_agree.specs.World.{World}
use Rattle.qs_world_refine.specs.InquiryLaws.{NamesGoes}
use Rattle.qs_world_refine.specs.Links.{IsTaken}
use Rattle.qs_world_refine.specs.Steps.{Knows}
use Rattle.qs_world_refine.specs.ToldRules.{ToldAbortGoes}
use Rattle.qs_world_refine.proofs.Alike.{SameFace, same_itself, found_itself, sight_alike}
use Rattle.qs_world_refine.proofs.Arrays.{node_dropped}
use Rattle.qs_world_refine.proofs.During.{quiet_itself, local_shown, face_here, runs, meets}
use Rattle.qs_world_refine.proofs.Handing.{taken_shown, head_said}
use Rattle.qs_world_refine.proofs.Known.{told_is}
use Rattle.qs_world_refine.proofs.Learning.{uncounted_taken}
use Rattle.qs_world_refine.proofs.Maps.{lookup_changed}
use Rattle.qs_world_refine.proofs.NodeSets.{joined_has, listed_has, where_length}
use Rattle.qs_world_refine.proofs.NodeTests.{where_is, in_run}
use Rattle.qs_world_refine.proofs.Reading.{part_known}
use Rattle.qs_world_refine.proofs.Refaced.{refaced}
use Rattle.qs_world_refine.proofs.Same.{tid_same}
use Rattle.qs_world_refine.proofs.SendGoes.{goes_on, tells_abort}
use Rattle.qs_world_refine.proofs.StartWorlds.{nobody}
use Rattle.qs_world_refine.proofs.TakingNames.{take_name}

-- ---- one name after another

abbrev pub naming_face : Face → List NodeNo → Face
naming_face f list = record f { tell = λ k. f.tell k || names_node list (node_no k) }

pub faced_here : (x : Sight) (n : ℕ) (f : Face) → (sight_faced x n f).face n ≡ f
faced_here x n f = by (n == n) (grind (arith, nat_tests))
  where
    by : (b : Bool) → b ≡ true → (if b then f else x.face n) ≡ f
    by b is = rw is refl

pub take_all : (tid : Tid) (n q : ℕ) (list : List NodeNo) (x : Sight) (w : World) → ShowsSight tid x w → Runs x n → n ≡ tid.home.0 → (x.face n).outcome ≡ Aborted → ((k : ℕ) → names_node list (node_no k) ≡ true → w.named q k ≡ true)
    → NamesGoes tid (sight_faced x n (naming_face (x.face n) list)) w q
take_all tid n q [] x w shown at home aborted named = record { next = w; leads = record { events = []; run = refl }; shown = seen; kept = λ k has. has }
  where
    seen : ShowsSight tid (sight_faced x n (naming_face (x.face n) [])) w
    seen = sight_alike tid x (sight_faced x n (naming_face (x.face n) [])) w (record { size = refl; inc = refl; up = refl; knows = refl; face = λ k. by k (k == n) refl; said = λ a k b l. refl; unmet = λ a b. refl; found = λ k. found_itself tid (x.found k) }) shown
      where
        by : (k : ℕ) (b : Bool) → (k == n) ≡ b → SameFace (x.face k) (if b then naming_face (x.face n) [] else x.face k)
        by k true is = rw (eqb-true k n is) (record { is_home = refl; on = refl; superior = refl; last = λ m. refl; sent = λ m. refl; covered = λ m. refl; waits = λ s. refl; uncast = λ s. refl; loans = refl; asked = refl; blocked = refl; involved = refl; told = λ m. refl; outcome = refl; tell = λ m. or-false ((x.face n).tell m) })
        by k false is = same_itself (x.face k)
take_all tid n q (node ∷ list) x w shown at home aborted named =
    rest (take_all tid n q list (sight_faced x n (telling_face (x.face n) node.0)) first.next first.shown (record { in_run = at.in_run; up = at.up }) home (rw (faced_here x n (telling_face (x.face n) node.0)) refl) (λ k has. first.kept k (named k (named_more k has))))
  where
    first_named : names_node (node ∷ list) (node_no node.0) ≡ true
    first_named = by (node.0 == node.0) (grind (arith, nat_tests))
      where
        by : (b : Bool) → b ≡ true → (b || names_node list (node_no node.0)) ≡ true
        by b is = rw is refl

    named_more : (k : ℕ) → names_node list (node_no k) ≡ true → names_node (node ∷ list) (node_no k) ≡ true
    named_more k has = by (k == node.0)
      where
        by : (b : Bool) → (b || names_node list (node_no k)) ≡ true
        by true = refl
        by false = has

    first : NamesGoes tid (sight_faced x n (telling_face (x.face n) node.0)) w q
    first = take_name tid x w n q node.0 shown at (record { home = home; may = inl aborted }) (named node.0 first_named)

    same : SameFace (naming_face (telling_face (x.face n) node.0) list) (naming_face (x.face n) (node ∷ list))
    same = record { is_home = refl; on = refl; superior = refl; last = λ m. refl; sent = λ m. refl; covered = λ m. refl; waits = λ s. refl; uncast = λ s. refl; loans = refl; asked = refl; blocked = refl; involved = refl; told = λ m. refl; outcome = aborted; tell = λ k. by (k == node.0) ((x.face n).tell k) (names_node list (node_no k)) }
      where
        by : (b t l : Bool) → (t || (b || l)) ≡ ((if b then true else t) || l)
        by true true l = refl
        by true false l = refl
        by false t l = refl

    rest : NamesGoes tid (sight_faced (sight_faced x n (telling_face (x.face n) node.0)) n (naming_face ((sight_faced x n (telling_face (x.face n) node.0)).face n) list)) first.next q → NamesGoes tid (sight_faced x n (naming_face (x.face n) (node ∷ list))) w q
    rest more = record { next = more.next; leads = leads_on w first.next more.next first.leads more.leads; shown = seen; kept = λ k has. more.kept k (first.kept k has) }
      where
        y : Sight
        y = sight_faced x n (telling_face (x.face n) node.0)

        seen : ShowsSight tid (sight_faced x n (naming_face (x.face n) (node ∷ list))) more.next
        seen = sight_alike tid (sight_faced y n (naming_face (y.face n) list)) (sight_faced x n (naming_face (x.face n) (node ∷ list))) more.next
            (record { size = refl; inc = refl; up = refl; knows = refl; face = λ k. by k (k == n); said = λ a k b l. refl; unmet = λ a b. refl; found = λ k. found_itself tid (x.found k) }) more.shown
          where
            by : (k : ℕ) (b : Bool) → SameFace (if b then naming_face (y.face n) list else (if b then telling_face (x.face n) node.0 else x.face k)) (if b then naming_face (x.face n) (node ∷ list) else x.face k)
            by k true = rw (faced_here x n (telling_face (x.face n) node.0)) same
            by k false = same_itself (x.face k)

-- ---- a node that is to tell fewer is shown too

fewer : (f : Face) (tell : ℕ → Bool) (q : ℕ) (w : World) → ((k : ℕ) → tell k ≡ true → f.tell k ≡ true) → ShowsFace f q w → ShowsFace (record f { tell = tell }) q w
fewer f tell q w among i = record {
  up = i.up;
  outcome = i.outcome;
  engaged = i.engaged;
  superior = i.superior;
  last = i.last;
  last_new = i.last_new;
  sent = i.sent;
  told_in = i.told_in;
  tell = λ is k has. i.tell is k (among k has);
  running = λ is. record { covered = (i.running is).covered; asked = (i.running is).asked; refused = (i.running is).refused; gone = (i.running is).gone; abort_vote = (i.running is).abort_vote; waits = (i.running is).waits; uncast = (i.running is).uncast; loans = (i.running is).loans; involved = (i.running is).involved; told = (i.running is).told };
}

-- ---- the names that are new

pub new_among : (home : NodeNo) (further : List NodeNo) (part : Participant) (k : ℕ) → home.0 < 16 → has_node (new_names home further part) (node_no k) ≡ true → names_node further (node_no k) ≡ true
new_among home further part k home_in has = by (k == home.0) (sym (node_dropped home.0 k (without (joined no_nodes further) part.tell) (rw whole home_in)) ∙ has)
  where
    whole : length (without (joined no_nodes further) part.tell).has ≡ 16
    whole = where_length _ all_nodes no_nodes

    joined_names : has_node (joined no_nodes further) (node_no k) ≡ true → k < 16 → names_node further (node_no k) ≡ true
    joined_names has below = sym (joined_has further no_nodes k (λ _. below) ∙ ap (λ (b : Bool). b || names_node further (node_no k)) (nobody k)) ∙ has

    there : has_node (without (joined no_nodes further) part.tell) (node_no k) ≡ true → names_node further (node_no k) ≡ true
    there has =
        let below = in_run (without (joined no_nodes further) part.tell) k whole has in
        joined_names (and_first (has_node (joined no_nodes further) (node_no k)) (not (has_node part.tell (node_no k))) (sym (where_is (λ node. has_node (joined no_nodes further) node && not (has_node part.tell node)) k below) ∙ has)) below

    by : (b : Bool) → (if b then false else has_node (without (joined no_nodes further) part.tell) (node_no k)) ≡ true → names_node further (node_no k) ≡ true
    by true has = absurd (cc has)
    by false has = there has

-- ---- the rule

module _ (tid : Tid) (scene : Scene) (m i : ℕ) (further : List NodeNo) (rest : List Message) (work : Work) (part : Participant) (w : World) (shown : ShowsWork tid scene tid.home.0 work w) (at : IsAt scene tid.home.0 work)
    (next : IsNext scene tid.home.0 m i (messages.Told tid further) rest) (knows : Knows tid work part) (aborted : part.outcome ≡ Some outcomes.Abort) where
  abbrev h : ℕ
  h = tid.home.0

  abbrev later : Scene
  later = handed scene m i h rest

  abbrev y : Sight
  y = sight_during tid later h work

  at_later : (new : Work) → new.node.setting ≡ work.node.setting → IsAt later h new
  at_later new same = record { in_run = at.in_run; up = at.up; node = rw same at.node; nodes = rw same at.nodes; inc = rw same at.inc }

  link_before : IsLink (link w (place m i) (place h (scene.inc h))) (Taken_in further ∷ all_said tid rest)
  link_before = subst (λ (l : List Said). IsLink (link w (place m i) (place h (scene.inc h))) l) head (shown.links m i h (scene.inc h) next.from.in_run at.in_run at.up refl)
    where
      head : (sight_during tid scene h work).said m i h (scene.inc h) ≡ Taken_in further ∷ all_said tid rest
      head = head_said tid scene h m i (messages.Told tid further) rest work.out.messages next ∙ rw (tid_same tid) refl

  shown_later : ShowsWork tid later h work w
  shown_later = taken_shown tid scene h m i (messages.Told tid further) rest work work w next (quiet_itself tid work) ((sight_during tid scene h work).face h)
      (uncounted_taken tid (sight_during tid scene h work) w h m i (all_said tid rest) shown (runs tid scene h work at) (meets tid scene h m i work next.from) link_before.1)
      (rw (face_here tid scene h work) (same_itself (face_at work.node tid)))

  named : (k : ℕ) → names_node further (node_no k) ≡ true → w.named (place m i) k ≡ true
  named k has = by link_before.0
    where
      by : IsTaken (link w (place m i) (place h (scene.inc h))) further → w.named (place m i) k ≡ true
      by (inl acked) = absurd (let none : names_node further (node_no k) ≡ false = ap (λ (l : List NodeNo). names_node l (node_no k)) acked.1 in cc (has, none))
      by (inr names) = names.1 k has

  face_before : y.face h ≡ face work.node tid part
  face_before = face_here tid later h work ∙ ap (λ (p : Participant). face work.node tid p) (part_known tid work.node part knows.known)

  turn : NamesGoes tid (sight_faced y h (naming_face (y.face h) further)) w (place m i)
  turn = take_all tid h (place m i) further y w shown_later (runs tid later h work (at_later work refl)) refl (rw face_before (rw aborted refl)) named

  abbrev taken : Work
  taken = with_manager (tm.take_names tid further) work

  known_taken : part_of tid taken ≡ Some (outcome_rules.take_names tid.home further part)
  known_taken = lookup_changed (is_at (tid_cmp tid)) (outcome_rules.take_names tid.home further) work.node.manager.known part knows.known

  abbrev told_face : Face
  told_face = record (face work.node tid part) { tell = λ k. has_node (outcome_rules.take_names tid.home further part).tell (node_no k) }

  face_taken : SameFace told_face (face_at taken.node tid)
  face_taken = rw (part_known tid taken.node (outcome_rules.take_names tid.home further part) known_taken)
      (record { is_home = refl; on = refl; superior = refl; last = λ k. refl; sent = λ k. refl; covered = λ k. refl; waits = λ s. refl; uncast = λ s. refl; loans = refl; asked = refl; blocked = refl; involved = refl; told = λ k. refl; outcome = refl; tell = λ k. refl })

  home_in : tid.home.0 < 16
  home_in = omega (arith, at.in_run, shown.stage.small)

  union_has : (k : ℕ) → k < 16 → has_node (outcome_rules.take_names tid.home further part).tell (node_no k) ≡ (has_node part.tell (node_no k) || has_node (new_names tid.home further part) (node_no k))
  union_has k below = where_is (λ node. has_node part.tell node || has_node (new_names tid.home further part) node) k below

  among : (k : ℕ) → has_node (outcome_rules.take_names tid.home further part).tell (node_no k) ≡ true → (has_node part.tell (node_no k) || names_node further (node_no k)) ≡ true
  among k has = by (has_node part.tell (node_no k)) (sym (union_has k (in_run (outcome_rules.take_names tid.home further part).tell k (where_length _ all_nodes no_nodes) has)) ∙ has)
    where
      by : (b : Bool) → (b || has_node (new_names tid.home further part) (node_no k)) ≡ true → (b || names_node further (node_no k)) ≡ true
      by true is = refl
      by false is = new_among tid.home further part k home_in is

  shown_taken : ShowsWork tid later h taken turn.next
  shown_taken = local_shown tid later h work taken turn.next (record { sends = λ q. refl; logs = λ log. found_itself tid _ }) told_face
      (refaced tid y turn.next h (naming_face (y.face h) further) told_face y.said y.found
      (λ i. fewer (naming_face (face work.node tid part) further) told_face.tell (place h (scene.inc h)) turn.next among (subst (λ (f : Face). ShowsFace (naming_face f further) (place h (scene.inc h)) turn.next) face_before i)) turn.shown)
      face_taken

  tells : (k : ℕ) → names_node (listed (new_names tid.home further part)) (node_no k) ≡ true → (face_at taken.node tid).tell k ≡ true
  tells k has = face_taken.tell k ∙ (union_has k (in_run (new_names tid.home further part) k new_whole fresh_has) ∙ by (has_node part.tell (node_no k)))
    where
      new_whole : length (new_names tid.home further part).has ≡ 16
      new_whole = length-set (without (joined no_nodes further) part.tell).has tid.home.0 false ∙ where_length _ all_nodes no_nodes

      fresh_has : has_node (new_names tid.home further part) (node_no k) ≡ true
      fresh_has = sym (listed_has (new_names tid.home further part) k new_whole) ∙ has

      by : (b : Bool) → (b || has_node (new_names tid.home further part) (node_no k)) ≡ true
      by true = refl
      by false = fresh_has

  pub told_goes : Goes tid later h (message_came (node_no m) (messages.Told tid further) work) w
  told_goes = subst (λ (k : Work). Goes tid later h k w) (sym work_is)
      (goes_on tid later h (send_each (listed (new_names tid.home further part)) (messages.Tell tid outcomes.Abort) taken) w turn.next turn.leads
      (tells_abort tid later h refl (listed (new_names tid.home further part)) taken turn.next (at_later taken refl) (face_taken.outcome ∙ rw aborted refl) tells shown_taken))
    where
      home_here : same_node tid.home (here work) ≡ true
      home_here = rw at.node (grind (arith, nat_tests))

      work_is : message_came (node_no m) (messages.Told tid further) work ≡ send_each (listed (new_names tid.home further part)) (messages.Tell tid outcomes.Abort) taken
      work_is =
          ap (λ (c : Bool). if c then elim (part_of tid work) [ None ↦ told_unknown (node_no m) tid further work | Some part ↦ told_known (node_no m) tid further part.outcome work ] else work) home_here
          ∙ (ap (λ (o : Option Participant). elim o [ None ↦ told_unknown (node_no m) tid further work | Some part ↦ told_known (node_no m) tid further part.outcome work ]) knows.known
          ∙ (ap (λ (o : Option Outcome). told_known (node_no m) tid further o work) aborted
          ∙ ap (λ (l : Nodes). send_each (listed l) (messages.Tell tid outcomes.Abort) taken) (told_is tid no_nodes (new_names tid.home further) work.node.manager part knows.known)))

pub told_abort : ToldAbortGoes
told_abort tid scene m i further rest work part w shown at next knows aborted = told_goes tid scene m i further rest work part w shown at next knows aborted
