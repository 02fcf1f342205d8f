-- Two sights that agree everywhere are shown by the same worlds.
use Rattle.qs_world_refine.proofs.Words.{list_any, same_tid, Recovery, is_untold_of, node_no, names_node, ◌≡◌, ℕ, refl, sym, ◌∙◌, Tid, place, Face, ShowsFace, ShowsOpen, Sight, ShowsSight, ShowsLog, is_in_doubt, list_of}
use Rattle.qs_world_agree.specs.World.{World}

pub record SameFace (f g : Face) : Type 0 where
  pub is_home : g.is_home ≡ f.is_home
  pub on : g.on ≡ f.on
  pub superior : g.superior ≡ f.superior
  pub last : (m : ℕ) → g.last m ≡ f.last m
  pub sent : (m : ℕ) → g.sent m ≡ f.sent m
  pub covered : (m : ℕ) → g.covered m ≡ f.covered m
  pub waits : (s : ℕ) → g.waits s ≡ f.waits s
  pub uncast : (s : ℕ) → g.uncast s ≡ f.uncast s
  pub loans : g.loans ≡ f.loans
  pub asked : g.asked ≡ f.asked
  pub blocked : g.blocked ≡ f.blocked
  pub involved : g.involved ≡ f.involved
  pub told : (m : ℕ) → g.told m ≡ f.told m
  pub outcome : g.outcome ≡ f.outcome
  pub tell : (m : ℕ) → g.tell m ≡ f.tell m

pub face_alike : (f g : Face) (q : ℕ) (w : World) → SameFace f g → ShowsFace f q w → ShowsFace g q w
face_alike f g q w e i = record {
  up = i.up;
  outcome = i.outcome ∙ sym e.outcome;
  engaged = i.engaged ∙ sym e.on;
  superior = λ on away. i.superior (sym e.on ∙ on) (sym e.is_home ∙ away) ∙ sym e.superior;
  last = λ on away. rw (e.superior, e.last f.superior) (i.last (sym e.on ∙ on) (sym e.is_home ∙ away));
  last_new = i.last_new;
  sent = λ running m. i.sent (λ is. running (e.outcome ∙ is)) m ∙ sym (e.sent m);
  told_in = λ m has. i.told_in m (sym (e.told m) ∙ has);
  tell = λ is m has. i.tell (sym e.outcome ∙ is) m (sym (e.tell m) ∙ has);
  running = λ is. running (i.running (sym e.outcome ∙ is));
}
  where
    running : ShowsOpen f q w → ShowsOpen g q w
    running i = record {
      covered = λ m. i.covered m ∙ sym (e.covered m);
      asked = i.asked ∙ sym e.asked;
      refused = λ is. i.refused (sym e.blocked ∙ is);
      gone = λ is. i.gone (sym e.blocked ∙ is);
      abort_vote = λ is. i.abort_vote (sym e.blocked ∙ is);
      waits = λ s. rw (e.waits s) (i.waits s);
      uncast = λ s votes. rw (e.uncast s) (i.uncast s votes);
      loans = i.loans ∙ sym e.loans;
      involved = i.involved ∙ sym e.involved;
      told = λ m. i.told m ∙ sym (e.told m);
    }

pub same_itself : (f : Face) → SameFace f f
same_itself f = record { is_home = refl; on = refl; superior = refl; last = λ m. refl; sent = λ m. refl; covered = λ m. refl; waits = λ s. refl; uncast = λ s. refl; loans = refl; asked = refl; blocked = refl; involved = refl; told = λ m. refl; outcome = refl; tell = λ m. refl }

pub face_on : (f g h : Face) → SameFace f g → SameFace g h → SameFace f h
face_on f g h first second = record {
  is_home = second.is_home ∙ first.is_home;
  on = second.on ∙ first.on;
  superior = second.superior ∙ first.superior;
  last = λ m. second.last m ∙ first.last m;
  sent = λ m. second.sent m ∙ first.sent m;
  covered = λ m. second.covered m ∙ first.covered m;
  waits = λ s. second.waits s ∙ first.waits s;
  uncast = λ s. second.uncast s ∙ first.uncast s;
  loans = second.loans ∙ first.loans;
  asked = second.asked ∙ first.asked;
  blocked = second.blocked ∙ first.blocked;
  involved = second.involved ∙ first.involved;
  told = λ m. second.told m ∙ first.told m;
  outcome = second.outcome ∙ first.outcome;
  tell = λ m. second.tell m ∙ first.tell m;
}

-- logs that say the same of the transaction
pub record SameFound (tid : Tid) (r s : Recovery) : Type 0 where
  pub prepared : (k : ℕ) → is_in_doubt tid k s ≡ is_in_doubt tid k r
  pub committed : list_any (same_tid tid) s.committed ≡ list_any (same_tid tid) r.committed
  pub unended : list_any (is_untold_of tid) s.untold ≡ list_any (is_untold_of tid) r.untold
  pub named : (m : ℕ) → names_node (list_of tid s) (node_no m) ≡ names_node (list_of tid r) (node_no m)

pub found_itself : (tid : Tid) (r : Recovery) → SameFound tid r r
found_itself tid r = record { prepared = λ k. refl; committed = refl; unended = refl; named = λ m. refl }

pub found_on : (tid : Tid) (a b c : Recovery) → SameFound tid a b → SameFound tid b c → SameFound tid a c
found_on tid a b c first second = record {
  prepared = λ k. second.prepared k ∙ first.prepared k;
  committed = second.committed ∙ first.committed;
  unended = second.unended ∙ first.unended;
  named = λ m. second.named m ∙ first.named m;
}

log_alike : (tid : Tid) (n : ℕ) (r s : Recovery) (w : World) → SameFound tid r s → ShowsLog tid n r w → ShowsLog tid n s w
log_alike tid n r s w e i = record {
  prepared = λ k. i.prepared k ∙ sym (e.prepared k);
  committed = λ here. i.committed here ∙ sym e.committed;
  unended = λ here. i.unended here ∙ sym e.unended;
  named = λ here stands m. i.named here stands m ∙ sym (e.named m);
}

pub record SameSight (tid : Tid) (x y : Sight) : Type 0 where
  pub size : y.size ≡ x.size
  pub inc : y.inc ≡ x.inc
  pub up : y.up ≡ x.up
  pub knows : y.knows ≡ x.knows
  pub face : (n : ℕ) → SameFace (x.face n) (y.face n)
  pub said : (n i m j : ℕ) → y.said n i m j ≡ x.said n i m j
  pub unmet : (n m : ℕ) → y.unmet n m ≡ x.unmet n m
  pub found : (n : ℕ) → SameFound tid (x.found n) (y.found n)

pub sight_alike : (tid : Tid) (x y : Sight) (w : World) → SameSight tid x y → ShowsSight tid x w → ShowsSight tid y w
sight_alike tid x y w e i = record {
  stage = record {
    small = rw e.size i.stage.small;
    numbered = i.stage.numbered;
    home = i.stage.home;
    nodes = λ n k in_run. i.stage.nodes n k (rw e.size at in_run);
    classes = i.stage.classes;
    present = λ n in_run. rw e.inc (i.stage.present n (rw e.size at in_run));
    up = λ n k in_run. rw (e.inc, e.up) (i.stage.up n k (rw e.size at in_run));
    peers = λ n m in_run in_too is_up. rw (e.inc, e.knows) (i.stage.peers n m (rw e.size at in_run) (rw e.size at in_too) (rw e.up at is_up));
  };
  faces = λ n in_run is_up. rw e.inc (face_alike (x.face n) (y.face n) (place n (x.inc n)) w (e.face n) (i.faces n (rw e.size at in_run) (rw e.up at is_up)));
  links = λ n k m j in_run in_too is_up is_now. rw (e.said n k m j) (i.links n k m j (rw e.size at in_run) (rw e.size at in_too) (rw e.up at is_up) (rw e.inc at is_now));
  unmet = λ n m in_run in_too is_up none. rw (e.unmet n m, e.inc) (i.unmet n m (rw e.size at in_run) (rw e.size at in_too) (rw e.up at is_up) (rw e.knows at none));
  logs = λ n in_run. log_alike tid n (x.found n) (y.found n) w (e.found n) (i.logs n (rw e.size at in_run));
}
