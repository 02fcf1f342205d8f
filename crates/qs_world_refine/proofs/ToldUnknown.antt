-- A Told that names others comes to a later incarnation of the home's node, which knows nothing of the transaction: Take_names for each name, then Tell_abort for each.
use Rattle.qs_world_refine.proofs.Words.{◌≡◌, ◌≢◌, ◌⊎◌, inl, inr, ℕ, ◌<◌, ◌==◌, ◌&&◌, ◌||◌, Bool, true, false, List, [], ◌∷◌, Option, Some, None, length, refl, sym, subst, ap, ◌∙◌, arith, if◌then◌else◌, list_any, is_at, eqb-true, or_right, nat_tests, length-set, tid_cmp, NodeNo, Tid, no_nodes, same_node, joined, without, listed, Message, new_names, aborted_participant, Participant, send_each, Work, here, part_of, with_manager, message_came, told_unknown, told_known, told_at_home, keep_abort_told}
use Rattle.qs_world_refine.proofs.Words.{is_other_node, take_names, Open, Committed, Aborted, IsLawful, Face, ShowsFace, telling_face, Taken_in, link, IsLink, node_no, names_node, all_said, face, face_at, unknown_at_home, began_here, is_past_commit, place, sight_faced, Scene, sight_during, ShowsWork, handed, Sight, ShowsSight, IsAt, IsNext, Goes, leads_on, and_false}
use Rattle.qs_base.specs.declared.identifiers.Outcome.TheVariants as outcomes
use Rattle.qs_engage.specs.Nodes.{all_nodes, has_node}
use Rattle.qs_packet.specs.declared.message.Message.TheVariants as messages
use Rattle.qs_tm.specs.Manager as tm
use Rattle.qs_tm.specs.Outcomes as outcome_rules
use Rattle.qs_world_agree.specs.World.{World}
use Rattle.qs_world_agree.specs.World as machine
use Rattle.qs_world_refine.specs.InquiryLaws.{NamesGoes}
use Rattle.qs_world_refine.specs.Links.{is_aborted, IsTaken}
use Rattle.qs_world_refine.specs.ToldRules.{ToldUnknownGoes}
use Rattle.qs_world_refine.proofs.Alike.{SameFace, same_itself, found_itself, sight_alike}
use Rattle.qs_world_refine.proofs.Arrays.{node_put}
use Rattle.qs_world_refine.proofs.During.{local_shown, face_here, runs}
use Rattle.qs_world_refine.proofs.Facts.{lawful_on}
use Rattle.qs_world_refine.proofs.FreshRuns.{fresh}
use Rattle.qs_world_refine.proofs.InquiryCame.{home_unknown}
use Rattle.qs_world_refine.proofs.InquiryUnknown.{kept_told}
use Rattle.qs_world_refine.proofs.Maps.{lookup_changed}
use Rattle.qs_world_refine.proofs.NodeSets.{listed_has, where_length}
use Rattle.qs_world_refine.proofs.NodeTests.{where_is, in_run}
use Rattle.qs_world_refine.proofs.Reading.{part_known}
use Rattle.qs_world_refine.proofs.Refaced.{refaced}
use Rattle.qs_world_refine.proofs.SendGoes.{goes_on, tells_abort}
use Rattle.qs_world_refine.proofs.StartWorlds.{nobody}
use Rattle.qs_world_refine.proofs.TakingNames.{take_name}
use Rattle.qs_world_refine.proofs.ToldAbort.{naming_face, faced_here, take_all, new_among}
use Rattle.qs_world_refine.proofs.ToldAgain.{first_link, handed_on, says_told}

-- the later of two faces counts
faced_twice : (tid : Tid) (y : Sight) (n : ℕ) (f g : Face) (w : World) → ShowsSight tid (sight_faced (sight_faced y n f) n g) w → ShowsSight tid (sight_faced y n g) w
faced_twice tid y n f g w shown = sight_alike tid (sight_faced (sight_faced y n f) n g) (sight_faced y n g) w
    (record { size = refl; inc = refl; up = refl; knows = refl; face = λ k. by k (k == n); said = λ a k b l. refl; unmet = λ a b. refl; found = λ k. found_itself tid (y.found k) }) shown
  where
    by : (k : ℕ) (b : Bool) → SameFace (if b then g else (if b then f else y.face k)) (if b then g else y.face k)
    by k true = same_itself g
    by k false = same_itself (y.face k)

-- whom it is to tell may be told otherwise
told_so : (f : Face) (tell : ℕ → Bool) (q : ℕ) (w : World) → f.outcome ≡ Aborted → ((k : ℕ) → tell k ≡ true → (w.to_tell q k ≡ true) ⊎ (w.tell_abort k ≡ true)) → ShowsFace f q w → ShowsFace (record f { tell = tell }) q w
told_so f tell q w aborted tells i = record { up = i.up; outcome = i.outcome; engaged = i.engaged; superior = i.superior; last = i.last; last_new = i.last_new; sent = i.sent; told_in = i.told_in; tell = λ _ k has. tells k has; running = λ is. absurd (cc (is, aborted)) }

cell_is : (o : machine.Outcome) → (elim o [ Aborted ↦ true | Open ↦ false | Committed ↦ false ]) ≡ true → o ≡ Aborted
cell_is Aborted is = refl
cell_is Open is = absurd (cc is)
cell_is Committed is = absurd (cc is)

-- a list that names others names somebody
record Names (list : List NodeNo) : Type 0 where
  node : ℕ
  named : names_node list (node_no node) ≡ true

somebody : (tid : Tid) (list : List NodeNo) → list_any (is_other_node tid) list ≡ true → Names list
somebody tid [] others = absurd (cc others)
somebody tid (node ∷ list) others = record { node = node.0; named = by (node.0 == node.0) (grind (arith, nat_tests)) }
  where
    by : (b : Bool) → b ≡ true → (b || names_node list (node_no node.0)) ≡ true
    by b is = rw is refl

module _ (tid : Tid) (scene : Scene) (m i : ℕ) (further : List NodeNo) (rest : List Message) (work : Work) (w : World) (lawful : IsLawful w) (shown : ShowsWork tid scene tid.home.0 work w) (at : IsAt scene tid.home.0 work)
    (next : IsNext scene tid.home.0 m i (messages.Told tid further) rest) (manager_is : work.node.manager.node ≡ work.node.setting.node) (none : part_of tid work ≡ None) (others : list_any (is_other_node tid) further ≡ true) (later_inc : tid.inc ≢ scene.inc tid.home.0) where
  abbrev h : ℕ
  h = tid.home.0

  abbrev q : ℕ
  q = place m i

  abbrev later : Scene
  later = handed scene m i h rest

  abbrev y : Sight
  y = sight_during tid later h work

  at_later : (new : Work) → new.node.setting ≡ work.node.setting → IsAt later h new
  at_later new same = record { in_run = at.in_run; up = at.up; node = rw same at.node; nodes = rw same at.nodes; inc = rw same at.inc }

  taken_link : IsLink (link w q (place h (scene.inc h))) (Taken_in further ∷ all_said tid rest)
  taken_link = first_link tid scene h m i (messages.Told tid further) rest (Taken_in further) work w shown at next (says_told tid further)

  shown_later : ShowsWork tid later h work w
  shown_later = handed_on tid scene h m i (messages.Told tid further) rest (Taken_in further) work w shown at next (says_told tid further) taken_link.1

  names : (is_aborted w ≡ true) × ((k : ℕ) → names_node further (node_no k) ≡ true → w.named q k ≡ true)
  names = by taken_link.0
    where
      by : IsTaken (link w q (place h (scene.inc h))) further → (is_aborted w ≡ true) × ((k : ℕ) → names_node further (node_no k) ≡ true → w.named q k ≡ true)
      by (inl acked) = absurd (let nobody_else : list_any (is_other_node tid) further ≡ false = ap (λ (l : List NodeNo). list_any (is_other_node tid) l) acked.1 in cc (others, nobody_else))
      by (inr is) = (is.0, is.1)

  home : same_node tid.home (here work) ≡ true
  home = rw at.node (grind (arith, nat_tests))

  not_here : began_here work.node tid ≡ false
  not_here = by (tid.inc == work.node.setting.inc) (rw at.inc (grind (arith, nat_tests, later_inc)))
    where
      by : (b : Bool) → b ≡ false → (same_node tid.home work.node.setting.node && b) ≡ false
      by b is = rw is (and_false (same_node tid.home work.node.setting.node))

  face_before : y.face h ≡ face work.node tid (unknown_at_home work.node tid)
  face_before = face_here tid later h work ∙ ap (λ (p : Participant). face work.node tid p) (home_unknown tid work home none)

  -- what is aborted was not committed
  not_past : is_past_commit work.node tid ≡ false
  not_past = by (is_past_commit work.node tid) refl
    where
      by : (b : Bool) → is_past_commit work.node tid ≡ b → b ≡ false
      by false is = refl
      by true is = absurd (
          let committed : w.outcome (place h (scene.inc h)) ≡ Committed = (shown_later.faces h at.in_run at.up).outcome ∙ (ap (λ (f : Face). f.outcome) face_before ∙ rw is refl) in
          let cell : w.cell ≡ Aborted = cell_is w.cell names.0 in
          let decided : w.cell ≡ Committed = lawful.agreed.knows_commit (place h (scene.inc h)) committed in cc (cell, decided))

  undecided : (y.face h).outcome ≡ Open
  undecided = ap (λ (f : Face). f.outcome) face_before ∙ rw not_past refl

  first : NamesGoes tid (sight_faced y h (telling_face (y.face h) (somebody tid further others).node)) w q
  first = take_name tid y w h q (somebody tid further others).node shown_later (runs tid later h work (at_later work refl)) (record { home = refl; may = inr (undecided, later_inc, λ k. ap (λ (f : Face). f.tell k) face_before ∙ nobody k) })
      (names.1 (somebody tid further others).node (somebody tid further others).named)

  abbrev y_first : Sight
  y_first = sight_faced y h (telling_face (y.face h) (somebody tid further others).node)

  second : NamesGoes tid (sight_faced y_first h (naming_face (y_first.face h) further)) first.next q
  second = take_all tid h q further y_first first.next first.shown (record { in_run = at.in_run; up = at.up }) refl (ap (λ (f : Face). f.outcome) (faced_here y h (telling_face (y.face h) (somebody tid further others).node))) (λ k has. first.kept k (names.1 k has))

  -- the node that sent the Told may be told abort by anybody
  sender_told : second.next.tell_abort m ≡ true
  sender_told = ap second.next.tell_abort (sym (second.shown.stage.nodes m i next.from.in_run))
      ∙ (fresh second.next (lawful_on first.next second.next (lawful_on w first.next lawful first.leads) second.leads) q 0).named (somebody tid further others).node
      (second.kept (somebody tid further others).node (first.kept (somebody tid further others).node (names.1 (somebody tid further others).node (somebody tid further others).named)))

  -- ---- what the node keeps

  abbrev kept : Work
  kept = keep_abort_told tid (node_no m) work

  abbrev told_part : Participant
  told_part = outcome_rules.add_tell (node_no m) (aborted_participant true)

  abbrev new_part : Participant
  new_part = outcome_rules.take_names tid.home further told_part

  abbrev taken : Work
  taken = with_manager (tm.take_names tid further) kept

  known_kept : part_of tid kept ≡ Some told_part
  known_kept = kept_told tid (node_no m) work none (ap (λ (k : NodeNo). same_node tid.home k) manager_is ∙ home)

  known_taken : part_of tid taken ≡ Some new_part
  known_taken = lookup_changed (is_at (tid_cmp tid)) (outcome_rules.take_names tid.home further) kept.node.manager.known told_part known_kept

  abbrev told_face : Face
  told_face = record (face work.node tid (unknown_at_home work.node tid)) { outcome = Aborted; tell = λ k. has_node new_part.tell (node_no k) }

  face_taken : SameFace told_face (face_at taken.node tid)
  face_taken = rw (part_known tid taken.node new_part known_taken)
      (record { is_home = refl; on = rw not_here refl; superior = refl; last = λ k. refl; sent = λ k. refl; covered = λ k. refl; waits = λ s. refl; uncast = λ s. refl; loans = refl; asked = refl; blocked = refl; involved = refl; told = λ k. refl; outcome = refl; tell = λ k. refl })

  home_in : tid.home.0 < 16
  home_in = omega (arith, at.in_run, shown.stage.small)

  m_in : m < 16
  m_in = omega (arith, next.from.in_run, shown.stage.small)

  union_has : (k : ℕ) → k < 16 → has_node new_part.tell (node_no k) ≡ (has_node told_part.tell (node_no k) || has_node (new_names tid.home further told_part) (node_no k))
  union_has k below = where_is (λ node. has_node told_part.tell node || has_node (new_names tid.home further told_part) node) k below

  -- the sender, or a name
  among : (k : ℕ) → has_node new_part.tell (node_no k) ≡ true → (k ≡ m) ⊎ (names_node further (node_no k) ≡ true)
  among k has = by (k == m) refl (has_node (new_names tid.home further told_part) (node_no k)) refl (sym (node_put m k no_nodes m_in)) (sym (union_has k (in_run new_part.tell k (where_length _ all_nodes no_nodes) has)) ∙ has)
    where
      by : (b : Bool) → (k == m) ≡ b → (c : Bool) → has_node (new_names tid.home further told_part) (node_no k) ≡ c → (if b then true else has_node no_nodes (node_no k)) ≡ has_node told_part.tell (node_no k) → (has_node told_part.tell (node_no k) || c) ≡ true → (k ≡ m) ⊎ (names_node further (node_no k) ≡ true)
      by true is c new same has = inl (eqb-true k m is)
      by false is true new same has = inr (new_among tid.home further told_part k home_in new)
      by false is false new same has = absurd (let off : (has_node told_part.tell (node_no k) || false) ≡ false = rw (sym same ∙ nobody k) refl in cc (has, off))

  shown_taken : ShowsWork tid later h taken second.next
  shown_taken = local_shown tid later h work taken second.next (record { sends = λ p. refl; logs = λ log. found_itself tid _ }) told_face
      (faced_twice tid y h (telling_face (y.face h) (somebody tid further others).node) told_face second.next
      (refaced tid y_first second.next h (naming_face (y_first.face h) further) told_face y.said y.found turn second.shown))
      face_taken
    where
      turn : ShowsFace (naming_face (y_first.face h) further) (place h (scene.inc h)) second.next → ShowsFace told_face (place h (scene.inc h)) second.next
      turn i = told_so (naming_face (telling_face (face work.node tid (unknown_at_home work.node tid)) (somebody tid further others).node) further) told_face.tell (place h (scene.inc h)) second.next refl tells now
        where
          now : ShowsFace (naming_face (telling_face (face work.node tid (unknown_at_home work.node tid)) (somebody tid further others).node) further) (place h (scene.inc h)) second.next
          now = subst (λ (f : Face). ShowsFace (naming_face f further) (place h (scene.inc h)) second.next) (faced_here y h (telling_face (y.face h) (somebody tid further others).node) ∙ ap (λ (f : Face). telling_face f (somebody tid further others).node) face_before) i

          tells : (k : ℕ) → has_node new_part.tell (node_no k) ≡ true → (second.next.to_tell (place h (scene.inc h)) k ≡ true) ⊎ (second.next.tell_abort k ≡ true)
          tells k has = by (among k has)
            where
              by : (k ≡ m) ⊎ (names_node further (node_no k) ≡ true) → (second.next.to_tell (place h (scene.inc h)) k ≡ true) ⊎ (second.next.tell_abort k ≡ true)
              by (inl is) = inr (ap second.next.tell_abort is ∙ sender_told)
              by (inr named) = now.tell refl k (or_right ((telling_face (face work.node tid (unknown_at_home work.node tid)) (somebody tid further others).node).tell k) (names_node further (node_no k)) named)

  tells_new : (k : ℕ) → names_node (listed (new_names tid.home further told_part)) (node_no k) ≡ true → (face_at taken.node tid).tell k ≡ true
  tells_new k has = face_taken.tell k ∙ (union_has k (in_run (new_names tid.home further told_part) k new_whole fresh_has) ∙ by (has_node told_part.tell (node_no k)))
    where
      new_whole : length (new_names tid.home further told_part).has ≡ 16
      new_whole = length-set (without (joined no_nodes further) told_part.tell).has tid.home.0 false ∙ where_length _ all_nodes no_nodes

      fresh_has : has_node (new_names tid.home further told_part) (node_no k) ≡ true
      fresh_has = sym (listed_has (new_names tid.home further told_part) k new_whole) ∙ has

      by : (b : Bool) → (b || has_node (new_names tid.home further told_part) (node_no k)) ≡ true
      by true = refl
      by false = fresh_has

  pub told_goes : Goes tid later h (message_came (node_no m) (messages.Told tid further) work) w
  told_goes = subst (λ (k : Work). Goes tid later h k w) (sym work_is)
      (goes_on tid later h (send_each (listed (new_names tid.home further told_part)) (messages.Tell tid outcomes.Abort) taken) w second.next (leads_on w first.next second.next first.leads second.leads)
      (tells_abort tid later h refl (listed (new_names tid.home further told_part)) taken second.next (at_later taken refl) face_taken.outcome tells_new shown_taken))
    where
      work_is : message_came (node_no m) (messages.Told tid further) work ≡ send_each (listed (new_names tid.home further told_part)) (messages.Tell tid outcomes.Abort) taken
      work_is =
          ap (λ (c : Bool). if c then told_at_home (node_no m) tid further work else work) home
          ∙ (ap (λ (o : Option Participant). elim o [ None ↦ told_unknown (node_no m) tid further work | Some part ↦ told_known (node_no m) tid further part.outcome work ]) none
          ∙ (ap (λ (b : Bool). if b then take_names tid further kept else work) others
          ∙ ap (λ (o : Option Participant). send_each (listed (elim o [ None ↦ no_nodes | Some part ↦ new_names tid.home further part ])) (messages.Tell tid outcomes.Abort) taken) known_kept))

pub told_unknown_goes : ToldUnknownGoes
told_unknown_goes tid scene m i further rest work w lawful shown at next manager_is none others later_inc = told_goes tid scene m i further rest work w lawful shown at next manager_is none others later_inc
