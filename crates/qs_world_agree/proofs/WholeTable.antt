-- What holds while nothing is aborted, by event.
use Rattle.std.proofs.Common.{◌≢◌, ℕ, ◌+◌, refl, arith, ap}
use Rattle.qs_world_agree.specs.World.{Aborted, World}
use Rattle.qs_world_agree.specs.Step.{Issue, Issue_unmet, Issue_local, Meet, Notice, Engage, Join, Cover, Serve, Serve_told, Lend, Yield, Ask, Vote_read, Vote_volatile, Force, Vote_recoverable, Vote_abort, Yes, Yes_lost, Count, Ignore, Refuse, Miss, Forget, Crash, Restart, Restart_in_doubt, Restart_home, Commit, Commit_cut, Commit_unlogged, Abort, Tell, Learn, Learn_cut, Learn_home, Acknowledge, Take_told, End, Checkpoint, Tell_abort, Learn_abort, Name_again, Take_names, Learn_abort_home, Abort_logged, Drop_engage, Drop_join, Drop_cover, Inquire, Inquire_lost, Inquire_home, Answer_commit, Answer_running, Answer_abort, Event, Step}
use Rattle.qs_world_agree.proofs.Counts.{Counts}
use Rattle.qs_world_agree.proofs.Servers.{Servers}
use Rattle.qs_world_agree.proofs.Outcomes.{Outcomes}
use Rattle.qs_world_agree.proofs.Keeps.{Keeps}
use Rattle.qs_world_agree.proofs.Places.{sent_before}
use Rattle.qs_world_agree.proofs.At.{linked}
use Rattle.qs_world_agree.proofs.Tree.{engaged_open, issuer_engaged, not_covered, only_home, sender_engaged, server_engaged, voter_engaged}
use Rattle.qs_world_agree.proofs.Held.{flying, leaving, ready_holds, told_at}
use Rattle.qs_world_agree.proofs.Whole.{Whole}
use Rattle.qs_world_agree.proofs.Never.{never_abort, never_abort_logged, never_answer_abort, never_drop_cover, never_drop_engage, never_drop_join, never_inquire_home, never_learn_abort, never_learn_abort_home, never_name_again, never_take_names, never_tell_abort}
use Rattle.qs_world_agree.proofs.Facts.{born, closer_received, decides, fresh, home_place, issue_open, known_now, lost_below, meets, next_closer, no_record, old_received, one_place, quiet, vote_open}
use Rattle.qs_world_agree.proofs.PlacesTable
use Rattle.qs_world_agree.proofs.ArrivalsTable
use Rattle.qs_world_agree.proofs.HomeTable
use Rattle.qs_world_agree.proofs.AtTable
use Rattle.qs_world_agree.proofs.BondTable
use Rattle.qs_world_agree.proofs.HeldTable
use Rattle.qs_world_agree.proofs.OwedTable
use Rattle.qs_world_agree.proofs.SilentTable
use Rattle.qs_world_agree.proofs.OrphansTable
use Rattle.qs_world_agree.proofs.DoubtTable
use Rattle.qs_world_agree.proofs.PreparesTable
use Rattle.qs_world_agree.proofs.LoggedTable
use Rattle.qs_world_agree.proofs.KnowsTable
use Rattle.qs_world_agree.proofs.AsksTable

pub whole_step : (e : Event) (w v : World) → Counts w → ((k i : ℕ) → Servers w k i) → Outcomes w → ((k : ℕ) → Keeps w k) → Whole w → w.cell ≢ Aborted → v.cell ≢ Aborted → Step e w v → Whole v
whole_step (Issue p q r) w v c x o y g b a s = record {
  places = PlacesTable.by_issue p q r w v c g.places s;
  arrivals = λ i j l. ArrivalsTable.by_issue p q r w v i j l (g.arrivals i j l) s (sent_before w c g.places i j l);
  tree = record { home = HomeTable.by_issue p q r w v g.tree.home s; at = λ k. AtTable.by_issue p q r w v k (g.tree.at k) s (λ on other. linked w k c (g.tree.at k) on other) (c.peer_node p q) };
  bond = λ k. BondTable.by_issue p q r w v k (g.bond k) s;
  held = λ n. HeldTable.by_issue p q r w v n (g.held n) s (issuer_engaged w p g.tree s.0);
  owed = λ n. OwedTable.by_issue p q r w v n (g.owed n) s (issue_open w p g.tree s.0);
  silent = SilentTable.by_issue p q r w v g.silent s;
  orphans = OrphansTable.by_issue p q r w v g.orphans s;
  doubt = λ k. DoubtTable.by_issue p q r w v k (g.doubt k) s (issue_open w p g.tree s.0) (quiet w k o (issue_open w p g.tree s.0));
  prepares = λ k i. PreparesTable.by_issue p q r w v k i (g.prepares k i) s;
  logged = λ n i. LoggedTable.by_issue p q r w v n i (g.logged n i) s;
  knows = λ k. KnowsTable.by_issue p q r w v k (g.knows k) s;
  asks = λ k j. AsksTable.by_issue p q r w v k j (g.asks k j) s;
}
whole_step (Issue_unmet p q r) w v c x o y g b a s = record {
  places = PlacesTable.by_issue_unmet p q r w v c g.places s;
  arrivals = λ i j l. ArrivalsTable.by_issue_unmet p q r w v i j l (g.arrivals i j l) s (sent_before w c g.places i j l);
  tree = record { home = HomeTable.by_issue_unmet p q r w v g.tree.home s; at = λ k. AtTable.by_issue_unmet p q r w v k (g.tree.at k) s };
  bond = λ k. BondTable.by_issue_unmet p q r w v k (g.bond k) s;
  held = λ n. HeldTable.by_issue_unmet p q r w v n (g.held n) s (issuer_engaged w p g.tree s.0);
  owed = λ n. OwedTable.by_issue_unmet p q r w v n (g.owed n) s (issue_open w p g.tree s.0);
  silent = SilentTable.by_issue_unmet p q r w v g.silent s;
  orphans = OrphansTable.by_issue_unmet p q r w v g.orphans s;
  doubt = λ k. DoubtTable.by_issue_unmet p q r w v k (g.doubt k) s (issue_open w p g.tree s.0) (quiet w k o (issue_open w p g.tree s.0));
  prepares = λ k i. PreparesTable.by_issue_unmet p q r w v k i (g.prepares k i) s;
  logged = λ n i. LoggedTable.by_issue_unmet p q r w v n i (g.logged n i) s;
  knows = λ k. KnowsTable.by_issue_unmet p q r w v k (g.knows k) s;
  asks = λ k j. AsksTable.by_issue_unmet p q r w v k j (g.asks k j) s;
}
whole_step (Issue_local p q) w v c x o y g b a s = record {
  places = PlacesTable.by_issue_local p q w v c g.places s;
  arrivals = λ i j l. ArrivalsTable.by_issue_local p q w v i j l (g.arrivals i j l) s;
  tree = record { home = HomeTable.by_issue_local p q w v g.tree.home s; at = λ k. AtTable.by_issue_local p q w v k (g.tree.at k) s };
  bond = λ k. BondTable.by_issue_local p q w v k (g.bond k) s;
  held = λ n. HeldTable.by_issue_local p q w v n (g.held n) s;
  owed = λ n. OwedTable.by_issue_local p q w v n (g.owed n) s;
  silent = SilentTable.by_issue_local p q w v g.silent s;
  orphans = OrphansTable.by_issue_local p q w v g.orphans s;
  doubt = λ k. DoubtTable.by_issue_local p q w v k (g.doubt k) s;
  prepares = λ k i. PreparesTable.by_issue_local p q w v k i (g.prepares k i) s;
  logged = λ n i. LoggedTable.by_issue_local p q w v n i (g.logged n i) s;
  knows = λ k. KnowsTable.by_issue_local p q w v k (g.knows k) s;
  asks = λ k j. AsksTable.by_issue_local p q w v k j (g.asks k j) s;
}
whole_step (Meet p q) w v c x o y g b a s = record {
  places = PlacesTable.by_meet p q w v c g.places s;
  arrivals = λ i j l. ArrivalsTable.by_meet p q w v i j l (g.arrivals i j l) s;
  tree = record { home = HomeTable.by_meet p q w v g.tree.home s; at = λ k. AtTable.by_meet p q w v k (g.tree.at k) s (λ on other. linked w k c (g.tree.at k) on other) };
  bond = λ k. BondTable.by_meet p q w v k (g.bond k) s;
  held = λ n. HeldTable.by_meet p q w v n (g.held n) s (flying w n c (g.held n));
  owed = λ n. OwedTable.by_meet p q w v n (g.owed n) s;
  silent = SilentTable.by_meet p q w v g.silent s;
  orphans = OrphansTable.by_meet p q w v g.orphans s;
  doubt = λ k. DoubtTable.by_meet p q w v k (g.doubt k) s;
  prepares = λ k i. PreparesTable.by_meet p q w v k i (g.prepares k i) s;
  logged = λ n i. LoggedTable.by_meet p q w v n i (g.logged n i) s;
  knows = λ k. KnowsTable.by_meet p q w v k (g.knows k) s;
  asks = λ k j. AsksTable.by_meet p q w v k j (g.asks k j) s (meets w p q o g.tree g.orphans (g.doubt p) (g.knows q) s.0 s.1 s.4);
}
whole_step (Notice p q) w v c x o y g b a s = record {
  places = PlacesTable.by_notice p q w v c g.places s;
  arrivals = λ i j l. ArrivalsTable.by_notice p q w v i j l (g.arrivals i j l) s;
  tree = record { home = HomeTable.by_notice p q w v g.tree.home s; at = λ k. AtTable.by_notice p q w v k (g.tree.at k) s (λ on other. linked w k c (g.tree.at k) on other) (c.covered_sent p (w.node q)) };
  bond = λ k. BondTable.by_notice p q w v k (g.bond k) s;
  held = λ n. HeldTable.by_notice p q w v n (g.held n) s (flying w n c (g.held n));
  owed = λ n. OwedTable.by_notice p q w v n (g.owed n) s;
  silent = SilentTable.by_notice p q w v g.silent s;
  orphans = OrphansTable.by_notice p q w v g.orphans s;
  doubt = λ k. DoubtTable.by_notice p q w v k (g.doubt k) s;
  prepares = λ k i. PreparesTable.by_notice p q w v k i (g.prepares k i) s;
  logged = λ n i. LoggedTable.by_notice p q w v n i (g.logged n i) s;
  knows = λ k. KnowsTable.by_notice p q w v k (g.knows k) s;
  asks = λ k j. AsksTable.by_notice p q w v k j (g.asks k j) s;
}
whole_step (Engage p q) w v c x o y g b a s = record {
  places = PlacesTable.by_engage p q w v c g.places s;
  arrivals = λ i j l. ArrivalsTable.by_engage p q w v i j l (g.arrivals i j l) s;
  tree = record { home = HomeTable.by_engage p q w v g.tree.home s; at = λ k. AtTable.by_engage p q w v k (g.tree.at k) s (engaged_open w q g.tree (sender_engaged w c g.places g.tree p q s.0)) (sender_engaged w c g.places g.tree p q s.0) (not_covered w c g.places p q s.0) (λ x from to. closer_received w p q x c from to) (λ r same below. old_received w q p r c s.0 same below) (known_now w q p c s.0) (born w p c s.0.0) };
  bond = λ k. BondTable.by_engage p q w v k (g.bond k) s;
  held = λ n. HeldTable.by_engage p q w v n (g.held n) s;
  owed = λ n. OwedTable.by_engage p q w v n (g.owed n) s;
  silent = SilentTable.by_engage p q w v g.silent s;
  orphans = OrphansTable.by_engage p q w v g.orphans s;
  doubt = λ k. DoubtTable.by_engage p q w v k (g.doubt k) s;
  prepares = λ k i. PreparesTable.by_engage p q w v k i (g.prepares k i) s;
  logged = λ n i. LoggedTable.by_engage p q w v n i (g.logged n i) s;
  knows = λ k. KnowsTable.by_engage p q w v k (g.knows k) s;
  asks = λ k j. AsksTable.by_engage p q w v k j (g.asks k j) s;
}
whole_step (Join p q) w v c x o y g b a s = record {
  places = PlacesTable.by_join p q w v c g.places s;
  arrivals = λ i j l. ArrivalsTable.by_join p q w v i j l (g.arrivals i j l) s;
  tree = record { home = HomeTable.by_join p q w v g.tree.home s; at = λ k. AtTable.by_join p q w v k (g.tree.at k) s };
  bond = λ k. BondTable.by_join p q w v k (g.bond k) s (c.last_received p q);
  held = λ n. HeldTable.by_join p q w v n (g.held n) s;
  owed = λ n. OwedTable.by_join p q w v n (g.owed n) s;
  silent = SilentTable.by_join p q w v g.silent s;
  orphans = OrphansTable.by_join p q w v g.orphans s;
  doubt = λ k. DoubtTable.by_join p q w v k (g.doubt k) s;
  prepares = λ k i. PreparesTable.by_join p q w v k i (g.prepares k i) s;
  logged = λ n i. LoggedTable.by_join p q w v n i (g.logged n i) s;
  knows = λ k. KnowsTable.by_join p q w v k (g.knows k) s;
  asks = λ k j. AsksTable.by_join p q w v k j (g.asks k j) s;
}
whole_step (Cover p q) w v c x o y g b a s = record {
  places = PlacesTable.by_cover p q w v c g.places s;
  arrivals = λ i j l. ArrivalsTable.by_cover p q w v i j l (g.arrivals i j l) s;
  tree = record { home = HomeTable.by_cover p q w v g.tree.home s; at = λ k. AtTable.by_cover p q w v k (g.tree.at k) s };
  bond = λ k. BondTable.by_cover p q w v k (g.bond k) s (c.last_received p q);
  held = λ n. HeldTable.by_cover p q w v n (g.held n) s;
  owed = λ n. OwedTable.by_cover p q w v n (g.owed n) s;
  silent = SilentTable.by_cover p q w v g.silent s;
  orphans = OrphansTable.by_cover p q w v g.orphans s;
  doubt = λ k. DoubtTable.by_cover p q w v k (g.doubt k) s;
  prepares = λ k i. PreparesTable.by_cover p q w v k i (g.prepares k i) s;
  logged = λ n i. LoggedTable.by_cover p q w v n i (g.logged n i) s;
  knows = λ k. KnowsTable.by_cover p q w v k (g.knows k) s;
  asks = λ k j. AsksTable.by_cover p q w v k j (g.asks k j) s;
}
whole_step (Serve p q) w v c x o y g b a s = record {
  places = PlacesTable.by_serve p q w v c g.places s;
  arrivals = λ i j l. ArrivalsTable.by_serve p q w v i j l (g.arrivals i j l) s;
  tree = record { home = HomeTable.by_serve p q w v g.tree.home s; at = λ k. AtTable.by_serve p q w v k (g.tree.at k) s };
  bond = λ k. BondTable.by_serve p q w v k (g.bond k) s;
  held = λ n. HeldTable.by_serve p q w v n (g.held n) s;
  owed = λ n. OwedTable.by_serve p q w v n (g.owed n) s;
  silent = SilentTable.by_serve p q w v g.silent s;
  orphans = OrphansTable.by_serve p q w v g.orphans s;
  doubt = λ k. DoubtTable.by_serve p q w v k (g.doubt k) s;
  prepares = λ k i. PreparesTable.by_serve p q w v k i (g.prepares k i) s;
  logged = λ n i. LoggedTable.by_serve p q w v n i (g.logged n i) s;
  knows = λ k. KnowsTable.by_serve p q w v k (g.knows k) s;
  asks = λ k j. AsksTable.by_serve p q w v k j (g.asks k j) s;
}
whole_step (Serve_told p q) w v c x o y g b a s = record {
  places = PlacesTable.by_serve_told p q w v c g.places s;
  arrivals = λ i j l. ArrivalsTable.by_serve_told p q w v i j l (g.arrivals i j l) s;
  tree = record { home = HomeTable.by_serve_told p q w v g.tree.home s; at = λ k. AtTable.by_serve_told p q w v k (g.tree.at k) s };
  bond = λ k. BondTable.by_serve_told p q w v k (g.bond k) s;
  held = λ n. HeldTable.by_serve_told p q w v n (g.held n) s (server_engaged w p q g.tree s.0.2);
  owed = λ n. OwedTable.by_serve_told p q w v n (g.owed n) s (engaged_open w p g.tree (server_engaged w p q g.tree s.0.2));
  silent = SilentTable.by_serve_told p q w v g.silent s;
  orphans = OrphansTable.by_serve_told p q w v g.orphans s;
  doubt = λ k. DoubtTable.by_serve_told p q w v k (g.doubt k) s (engaged_open w p g.tree (server_engaged w p q g.tree s.0.2)) (quiet w k o (engaged_open w p g.tree (server_engaged w p q g.tree s.0.2)));
  prepares = λ k i. PreparesTable.by_serve_told p q w v k i (g.prepares k i) s;
  logged = λ n i. LoggedTable.by_serve_told p q w v n i (g.logged n i) s;
  knows = λ k. KnowsTable.by_serve_told p q w v k (g.knows k) s;
  asks = λ k j. AsksTable.by_serve_told p q w v k j (g.asks k j) s;
}
whole_step (Lend p q) w v c x o y g b a s = record {
  places = PlacesTable.by_lend p q w v c g.places s;
  arrivals = λ i j l. ArrivalsTable.by_lend p q w v i j l (g.arrivals i j l) s;
  tree = record { home = HomeTable.by_lend p q w v g.tree.home s; at = λ k. AtTable.by_lend p q w v k (g.tree.at k) s };
  bond = λ k. BondTable.by_lend p q w v k (g.bond k) s;
  held = λ n. HeldTable.by_lend p q w v n (g.held n) s;
  owed = λ n. OwedTable.by_lend p q w v n (g.owed n) s;
  silent = SilentTable.by_lend p q w v g.silent s;
  orphans = OrphansTable.by_lend p q w v g.orphans s;
  doubt = λ k. DoubtTable.by_lend p q w v k (g.doubt k) s;
  prepares = λ k i. PreparesTable.by_lend p q w v k i (g.prepares k i) s;
  logged = λ n i. LoggedTable.by_lend p q w v n i (g.logged n i) s;
  knows = λ k. KnowsTable.by_lend p q w v k (g.knows k) s;
  asks = λ k j. AsksTable.by_lend p q w v k j (g.asks k j) s;
}
whole_step (Yield p) w v c x o y g b a s = record {
  places = PlacesTable.by_yield p w v c g.places s;
  arrivals = λ i j l. ArrivalsTable.by_yield p w v i j l (g.arrivals i j l) s;
  tree = record { home = HomeTable.by_yield p w v g.tree.home s; at = λ k. AtTable.by_yield p w v k (g.tree.at k) s };
  bond = λ k. BondTable.by_yield p w v k (g.bond k) s;
  held = λ n. HeldTable.by_yield p w v n (g.held n) s;
  owed = λ n. OwedTable.by_yield p w v n (g.owed n) s;
  silent = SilentTable.by_yield p w v g.silent s;
  orphans = OrphansTable.by_yield p w v g.orphans s;
  doubt = λ k. DoubtTable.by_yield p w v k (g.doubt k) s;
  prepares = λ k i. PreparesTable.by_yield p w v k i (g.prepares k i) s;
  logged = λ n i. LoggedTable.by_yield p w v n i (g.logged n i) s;
  knows = λ k. KnowsTable.by_yield p w v k (g.knows k) s;
  asks = λ k j. AsksTable.by_yield p w v k j (g.asks k j) s;
}
whole_step (Ask p) w v c x o y g b a s = record {
  places = PlacesTable.by_ask p w v c g.places s;
  arrivals = λ i j l. ArrivalsTable.by_ask p w v i j l (g.arrivals i j l) s;
  tree = record { home = HomeTable.by_ask p w v g.tree.home s; at = λ k. AtTable.by_ask p w v k (g.tree.at k) s };
  bond = λ k. BondTable.by_ask p w v k (g.bond k) s;
  held = λ n. HeldTable.by_ask p w v n (g.held n) s;
  owed = λ n. OwedTable.by_ask p w v n (g.owed n) s;
  silent = SilentTable.by_ask p w v g.silent s;
  orphans = OrphansTable.by_ask p w v g.orphans s;
  doubt = λ k. DoubtTable.by_ask p w v k (g.doubt k) s;
  prepares = λ k i. PreparesTable.by_ask p w v k i (g.prepares k i) s;
  logged = λ n i. LoggedTable.by_ask p w v n i (g.logged n i) s;
  knows = λ k. KnowsTable.by_ask p w v k (g.knows k) s;
  asks = λ k j. AsksTable.by_ask p w v k j (g.asks k j) s;
}
whole_step (Vote_read p q) w v c x o y g b a s = record {
  places = PlacesTable.by_vote_read p q w v c g.places s;
  arrivals = λ i j l. ArrivalsTable.by_vote_read p q w v i j l (g.arrivals i j l) s;
  tree = record { home = HomeTable.by_vote_read p q w v g.tree.home s; at = λ k. AtTable.by_vote_read p q w v k (g.tree.at k) s };
  bond = λ k. BondTable.by_vote_read p q w v k (g.bond k) s;
  held = λ n. HeldTable.by_vote_read p q w v n (g.held n) s;
  owed = λ n. OwedTable.by_vote_read p q w v n (g.owed n) s;
  silent = SilentTable.by_vote_read p q w v g.silent s;
  orphans = OrphansTable.by_vote_read p q w v g.orphans s;
  doubt = λ k. DoubtTable.by_vote_read p q w v k (g.doubt k) s;
  prepares = λ k i. PreparesTable.by_vote_read p q w v k i (g.prepares k i) s;
  logged = λ n i. LoggedTable.by_vote_read p q w v n i (g.logged n i) s;
  knows = λ k. KnowsTable.by_vote_read p q w v k (g.knows k) s;
  asks = λ k j. AsksTable.by_vote_read p q w v k j (g.asks k j) s;
}
whole_step (Vote_volatile p q) w v c x o y g b a s = record {
  places = PlacesTable.by_vote_volatile p q w v c g.places s;
  arrivals = λ i j l. ArrivalsTable.by_vote_volatile p q w v i j l (g.arrivals i j l) s;
  tree = record { home = HomeTable.by_vote_volatile p q w v g.tree.home s; at = λ k. AtTable.by_vote_volatile p q w v k (g.tree.at k) s };
  bond = λ k. BondTable.by_vote_volatile p q w v k (g.bond k) s;
  held = λ n. HeldTable.by_vote_volatile p q w v n (g.held n) s (voter_engaged w p q (x p q) g.tree s.0);
  owed = λ n. OwedTable.by_vote_volatile p q w v n (g.owed n) s (vote_open w p q (x p q) g.tree s.0);
  silent = SilentTable.by_vote_volatile p q w v g.silent s;
  orphans = OrphansTable.by_vote_volatile p q w v g.orphans s;
  doubt = λ k. DoubtTable.by_vote_volatile p q w v k (g.doubt k) s (vote_open w p q (x p q) g.tree s.0) (quiet w k o (vote_open w p q (x p q) g.tree s.0));
  prepares = λ k i. PreparesTable.by_vote_volatile p q w v k i (g.prepares k i) s;
  logged = λ n i. LoggedTable.by_vote_volatile p q w v n i (g.logged n i) s;
  knows = λ k. KnowsTable.by_vote_volatile p q w v k (g.knows k) s;
  asks = λ k j. AsksTable.by_vote_volatile p q w v k j (g.asks k j) s;
}
whole_step (Force p q) w v c x o y g b a s = record {
  places = PlacesTable.by_force p q w v c g.places s;
  arrivals = λ i j l. ArrivalsTable.by_force p q w v i j l (g.arrivals i j l) s;
  tree = record { home = HomeTable.by_force p q w v g.tree.home s; at = λ k. AtTable.by_force p q w v k (g.tree.at k) s };
  bond = λ k. BondTable.by_force p q w v k (g.bond k) s;
  held = λ n. HeldTable.by_force p q w v n (g.held n) s (voter_engaged w p q (x p q) g.tree s.0);
  owed = λ n. OwedTable.by_force p q w v n (g.owed n) s (vote_open w p q (x p q) g.tree s.0);
  silent = SilentTable.by_force p q w v g.silent s (vote_open w p q (x p q) g.tree s.0);
  orphans = OrphansTable.by_force p q w v g.orphans s;
  doubt = λ k. DoubtTable.by_force p q w v k (g.doubt k) s (vote_open w p q (x p q) g.tree s.0) (quiet w k o (vote_open w p q (x p q) g.tree s.0));
  prepares = λ k i. PreparesTable.by_force p q w v k i (g.prepares k i) s (quiet w k o (vote_open w p q (x p q) g.tree s.0)) (λ same on. one_place w p k c s.0.0 on same);
  logged = λ n i. LoggedTable.by_force p q w v n i (g.logged n i) s (vote_open w p q (x p q) g.tree s.0);
  knows = λ k. KnowsTable.by_force p q w v k (g.knows k) s;
  asks = λ k j. AsksTable.by_force p q w v k j (g.asks k j) s;
}
whole_step (Vote_recoverable p q) w v c x o y g b a s = record {
  places = PlacesTable.by_vote_recoverable p q w v c g.places s;
  arrivals = λ i j l. ArrivalsTable.by_vote_recoverable p q w v i j l (g.arrivals i j l) s;
  tree = record { home = HomeTable.by_vote_recoverable p q w v g.tree.home s; at = λ k. AtTable.by_vote_recoverable p q w v k (g.tree.at k) s };
  bond = λ k. BondTable.by_vote_recoverable p q w v k (g.bond k) s;
  held = λ n. HeldTable.by_vote_recoverable p q w v n (g.held n) s (voter_engaged w p q (x p q) g.tree s.0);
  owed = λ n. OwedTable.by_vote_recoverable p q w v n (g.owed n) s (vote_open w p q (x p q) g.tree s.0);
  silent = SilentTable.by_vote_recoverable p q w v g.silent s (vote_open w p q (x p q) g.tree s.0);
  orphans = OrphansTable.by_vote_recoverable p q w v g.orphans s;
  doubt = λ k. DoubtTable.by_vote_recoverable p q w v k (g.doubt k) s (vote_open w p q (x p q) g.tree s.0) (quiet w k o (vote_open w p q (x p q) g.tree s.0));
  prepares = λ k i. PreparesTable.by_vote_recoverable p q w v k i (g.prepares k i) s (quiet w k o (vote_open w p q (x p q) g.tree s.0)) (λ same on. one_place w p k c s.0.0 on same);
  logged = λ n i. LoggedTable.by_vote_recoverable p q w v n i (g.logged n i) s (vote_open w p q (x p q) g.tree s.0);
  knows = λ k. KnowsTable.by_vote_recoverable p q w v k (g.knows k) s;
  asks = λ k j. AsksTable.by_vote_recoverable p q w v k j (g.asks k j) s;
}
whole_step (Vote_abort p q) w v c x o y g b a s = record {
  places = PlacesTable.by_vote_abort p q w v c g.places s;
  arrivals = λ i j l. ArrivalsTable.by_vote_abort p q w v i j l (g.arrivals i j l) s;
  tree = record { home = HomeTable.by_vote_abort p q w v g.tree.home s; at = λ k. AtTable.by_vote_abort p q w v k (g.tree.at k) s };
  bond = λ k. BondTable.by_vote_abort p q w v k (g.bond k) s;
  held = λ n. HeldTable.by_vote_abort p q w v n (g.held n) s;
  owed = λ n. OwedTable.by_vote_abort p q w v n (g.owed n) s;
  silent = SilentTable.by_vote_abort p q w v g.silent s;
  orphans = OrphansTable.by_vote_abort p q w v g.orphans s;
  doubt = λ k. DoubtTable.by_vote_abort p q w v k (g.doubt k) s;
  prepares = λ k i. PreparesTable.by_vote_abort p q w v k i (g.prepares k i) s;
  logged = λ n i. LoggedTable.by_vote_abort p q w v n i (g.logged n i) s;
  knows = λ k. KnowsTable.by_vote_abort p q w v k (g.knows k) s;
  asks = λ k j. AsksTable.by_vote_abort p q w v k j (g.asks k j) s;
}
whole_step (Yes p) w v c x o y g b a s = record {
  places = PlacesTable.by_yes p w v c g.places s;
  arrivals = λ i j l. ArrivalsTable.by_yes p w v i j l (g.arrivals i j l) s;
  tree = record { home = HomeTable.by_yes p w v g.tree.home s; at = λ k. AtTable.by_yes p w v k (g.tree.at k) s (λ on other. linked w k c (g.tree.at k) on other) };
  bond = λ k. BondTable.by_yes p w v k (g.bond k) s;
  held = λ n. HeldTable.by_yes p w v n (g.held n) s (leaving w p c (g.tree.at p) (g.bond p) s.1.engaged s.0) (λ is at. ready_holds w n p c (g.held n) is s.1 at);
  owed = λ n. OwedTable.by_yes p w v n (g.owed n) s;
  silent = SilentTable.by_yes p w v g.silent s;
  orphans = OrphansTable.by_yes p w v g.orphans s (c.up_present p s.1.up);
  doubt = λ k. DoubtTable.by_yes p w v k (g.doubt k) s;
  prepares = λ k i. PreparesTable.by_yes p w v k i (g.prepares k i) s;
  logged = λ n i. LoggedTable.by_yes p w v n i (g.logged n i) s;
  knows = λ k. KnowsTable.by_yes p w v k (g.knows k) s;
  asks = λ k j. AsksTable.by_yes p w v k j (g.asks k j) s;
}
whole_step (Yes_lost p) w v c x o y g b a s = record {
  places = PlacesTable.by_yes_lost p w v c g.places s;
  arrivals = λ i j l. ArrivalsTable.by_yes_lost p w v i j l (g.arrivals i j l) s;
  tree = record { home = HomeTable.by_yes_lost p w v g.tree.home s; at = λ k. AtTable.by_yes_lost p w v k (g.tree.at k) s (λ on other. linked w k c (g.tree.at k) on other) };
  bond = λ k. BondTable.by_yes_lost p w v k (g.bond k) s;
  held = λ n. HeldTable.by_yes_lost p w v n (g.held n) s (leaving w p c (g.tree.at p) (g.bond p) s.1.engaged s.0) (λ is at. ready_holds w n p c (g.held n) is s.1 at);
  owed = λ n. OwedTable.by_yes_lost p w v n (g.owed n) s;
  silent = SilentTable.by_yes_lost p w v g.silent s;
  orphans = OrphansTable.by_yes_lost p w v g.orphans s (c.up_present p s.1.up);
  doubt = λ k. DoubtTable.by_yes_lost p w v k (g.doubt k) s;
  prepares = λ k i. PreparesTable.by_yes_lost p w v k i (g.prepares k i) s;
  logged = λ n i. LoggedTable.by_yes_lost p w v n i (g.logged n i) s;
  knows = λ k. KnowsTable.by_yes_lost p w v k (g.knows k) s;
  asks = λ k j. AsksTable.by_yes_lost p w v k j (g.asks k j) s;
}
whole_step (Count p q) w v c x o y g b a s = record {
  places = PlacesTable.by_count p q w v c g.places s;
  arrivals = λ i j l. ArrivalsTable.by_count p q w v i j l (g.arrivals i j l) s;
  tree = record { home = HomeTable.by_count p q w v g.tree.home s; at = λ k. AtTable.by_count p q w v k (g.tree.at k) s (next_closer w p q c s.2) };
  bond = λ k. BondTable.by_count p q w v k (g.bond k) s;
  held = λ n. HeldTable.by_count p q w v n (g.held n) s;
  owed = λ n. OwedTable.by_count p q w v n (g.owed n) s;
  silent = SilentTable.by_count p q w v g.silent s;
  orphans = OrphansTable.by_count p q w v g.orphans s;
  doubt = λ k. DoubtTable.by_count p q w v k (g.doubt k) s;
  prepares = λ k i. PreparesTable.by_count p q w v k i (g.prepares k i) s;
  logged = λ n i. LoggedTable.by_count p q w v n i (g.logged n i) s;
  knows = λ k. KnowsTable.by_count p q w v k (g.knows k) s;
  asks = λ k j. AsksTable.by_count p q w v k j (g.asks k j) s;
}
whole_step (Ignore p q) w v c x o y g b a s = record {
  places = PlacesTable.by_ignore p q w v c g.places s;
  arrivals = λ i j l. ArrivalsTable.by_ignore p q w v i j l (g.arrivals i j l) s;
  tree = record { home = HomeTable.by_ignore p q w v g.tree.home s; at = λ k. AtTable.by_ignore p q w v k (g.tree.at k) s };
  bond = λ k. BondTable.by_ignore p q w v k (g.bond k) s;
  held = λ n. HeldTable.by_ignore p q w v n (g.held n) s;
  owed = λ n. OwedTable.by_ignore p q w v n (g.owed n) s;
  silent = SilentTable.by_ignore p q w v g.silent s;
  orphans = OrphansTable.by_ignore p q w v g.orphans s;
  doubt = λ k. DoubtTable.by_ignore p q w v k (g.doubt k) s;
  prepares = λ k i. PreparesTable.by_ignore p q w v k i (g.prepares k i) s;
  logged = λ n i. LoggedTable.by_ignore p q w v n i (g.logged n i) s;
  knows = λ k. KnowsTable.by_ignore p q w v k (g.knows k) s;
  asks = λ k j. AsksTable.by_ignore p q w v k j (g.asks k j) s;
}
whole_step (Refuse p) w v c x o y g b a s = record {
  places = PlacesTable.by_refuse p w v c g.places s;
  arrivals = λ i j l. ArrivalsTable.by_refuse p w v i j l (g.arrivals i j l) s;
  tree = record { home = HomeTable.by_refuse p w v g.tree.home s; at = λ k. AtTable.by_refuse p w v k (g.tree.at k) s };
  bond = λ k. BondTable.by_refuse p w v k (g.bond k) s;
  held = λ n. HeldTable.by_refuse p w v n (g.held n) s;
  owed = λ n. OwedTable.by_refuse p w v n (g.owed n) s;
  silent = SilentTable.by_refuse p w v g.silent s;
  orphans = OrphansTable.by_refuse p w v g.orphans s;
  doubt = λ k. DoubtTable.by_refuse p w v k (g.doubt k) s;
  prepares = λ k i. PreparesTable.by_refuse p w v k i (g.prepares k i) s;
  logged = λ n i. LoggedTable.by_refuse p w v n i (g.logged n i) s;
  knows = λ k. KnowsTable.by_refuse p w v k (g.knows k) s;
  asks = λ k j. AsksTable.by_refuse p w v k j (g.asks k j) s;
}
whole_step (Miss p) w v c x o y g b a s = record {
  places = PlacesTable.by_miss p w v c g.places s;
  arrivals = λ i j l. ArrivalsTable.by_miss p w v i j l (g.arrivals i j l) s;
  tree = record { home = HomeTable.by_miss p w v g.tree.home s; at = λ k. AtTable.by_miss p w v k (g.tree.at k) s };
  bond = λ k. BondTable.by_miss p w v k (g.bond k) s;
  held = λ n. HeldTable.by_miss p w v n (g.held n) s;
  owed = λ n. OwedTable.by_miss p w v n (g.owed n) s;
  silent = SilentTable.by_miss p w v g.silent s;
  orphans = OrphansTable.by_miss p w v g.orphans s;
  doubt = λ k. DoubtTable.by_miss p w v k (g.doubt k) s;
  prepares = λ k i. PreparesTable.by_miss p w v k i (g.prepares k i) s;
  logged = λ n i. LoggedTable.by_miss p w v n i (g.logged n i) s;
  knows = λ k. KnowsTable.by_miss p w v k (g.knows k) s;
  asks = λ k j. AsksTable.by_miss p w v k j (g.asks k j) s;
}
whole_step (Forget p) w v c x o y g b a s = record {
  places = PlacesTable.by_forget p w v c g.places s;
  arrivals = λ i j l. ArrivalsTable.by_forget p w v i j l (g.arrivals i j l) s;
  tree = record { home = HomeTable.by_forget p w v g.tree.home s; at = λ k. AtTable.by_forget p w v k (g.tree.at k) s };
  bond = λ k. BondTable.by_forget p w v k (g.bond k) s;
  held = λ n. HeldTable.by_forget p w v n (g.held n) s;
  owed = λ n. OwedTable.by_forget p w v n (g.owed n) s;
  silent = SilentTable.by_forget p w v g.silent s;
  orphans = OrphansTable.by_forget p w v g.orphans s;
  doubt = λ k. DoubtTable.by_forget p w v k (g.doubt k) s;
  prepares = λ k i. PreparesTable.by_forget p w v k i (g.prepares k i) s;
  logged = λ n i. LoggedTable.by_forget p w v n i (g.logged n i) s;
  knows = λ k. KnowsTable.by_forget p w v k (g.knows k) s;
  asks = λ k j. AsksTable.by_forget p w v k j (g.asks k j) s;
}
whole_step (Crash p) w v c x o y g b a s = record {
  places = PlacesTable.by_crash p w v c g.places s;
  arrivals = λ i j l. ArrivalsTable.by_crash p w v i j l (g.arrivals i j l) s;
  tree = record { home = HomeTable.by_crash p w v g.tree.home s; at = λ k. AtTable.by_crash p w v k (g.tree.at k) s };
  bond = λ k. BondTable.by_crash p w v k (g.bond k) s;
  held = λ n. HeldTable.by_crash p w v n (g.held n) s;
  owed = λ n. OwedTable.by_crash p w v n (g.owed n) s;
  silent = SilentTable.by_crash p w v g.silent s;
  orphans = OrphansTable.by_crash p w v g.orphans s;
  doubt = λ k. DoubtTable.by_crash p w v k (g.doubt k) s;
  prepares = λ k i. PreparesTable.by_crash p w v k i (g.prepares k i) s;
  logged = λ n i. LoggedTable.by_crash p w v n i (g.logged n i) s;
  knows = λ k. KnowsTable.by_crash p w v k (g.knows k) s;
  asks = λ k j. AsksTable.by_crash p w v k j (g.asks k j) s;
}
whole_step (Restart p) w v c x o y g b a s = record {
  places = PlacesTable.by_restart p w v c g.places s;
  arrivals = λ i j l. ArrivalsTable.by_restart p w v i j l (g.arrivals i j l) s;
  tree = record { home = HomeTable.by_restart p w v g.tree.home s; at = λ k. AtTable.by_restart p w v k (g.tree.at k) s };
  bond = λ k. BondTable.by_restart p w v k (g.bond k) s;
  held = λ n. HeldTable.by_restart p w v n (g.held n) s ((g.tree.at p).unborn s.1);
  owed = λ n. OwedTable.by_restart p w v n (g.owed n) s;
  silent = SilentTable.by_restart p w v g.silent s;
  orphans = OrphansTable.by_restart p w v g.orphans s;
  doubt = λ k. DoubtTable.by_restart p w v k (g.doubt k) s;
  prepares = λ k i. PreparesTable.by_restart p w v k i (g.prepares k i) s;
  logged = λ n i. LoggedTable.by_restart p w v n i (g.logged n i) s;
  knows = λ k. KnowsTable.by_restart p w v k (g.knows k) s;
  asks = λ k j. AsksTable.by_restart p w v k j (g.asks k j) s;
}
whole_step (Restart_in_doubt p q) w v c x o y g b a s = record {
  places = PlacesTable.by_restart_in_doubt p q w v c g.places s;
  arrivals = λ i j l. ArrivalsTable.by_restart_in_doubt p q w v i j l (g.arrivals i j l) s;
  tree = record { home = HomeTable.by_restart_in_doubt p q w v g.tree.home s; at = λ k. AtTable.by_restart_in_doubt p q w v k (g.tree.at k) s };
  bond = λ k. BondTable.by_restart_in_doubt p q w v k (g.bond k) s;
  held = λ n. HeldTable.by_restart_in_doubt p q w v n (g.held n) s;
  owed = λ n. OwedTable.by_restart_in_doubt p q w v n (g.owed n) s;
  silent = SilentTable.by_restart_in_doubt p q w v g.silent s;
  orphans = OrphansTable.by_restart_in_doubt p q w v g.orphans s;
  doubt = λ k. DoubtTable.by_restart_in_doubt p q w v k (g.doubt k) s (λ is other prepared. (g.logged (w.node p) q).in_log is other prepared) (g.prepares k q).told_clear;
  prepares = λ k i. PreparesTable.by_restart_in_doubt p q w v k i (g.prepares k i) s (y p).unborn;
  logged = λ n i. LoggedTable.by_restart_in_doubt p q w v n i (g.logged n i) s;
  knows = λ k. KnowsTable.by_restart_in_doubt p q w v k (g.knows k) s;
  asks = λ k j. AsksTable.by_restart_in_doubt p q w v k j (g.asks k j) s;
}
whole_step (Restart_home p) w v c x o y g b a s = record {
  places = PlacesTable.by_restart_home p w v c g.places a s;
  arrivals = λ i j l. ArrivalsTable.by_restart_home p w v i j l (g.arrivals i j l) a s;
  tree = record { home = HomeTable.by_restart_home p w v g.tree.home a s; at = λ k. AtTable.by_restart_home p w v k (g.tree.at k) a s };
  bond = λ k. BondTable.by_restart_home p w v k (g.bond k) a s;
  held = λ n. HeldTable.by_restart_home p w v n (g.held n) a s;
  owed = λ n. OwedTable.by_restart_home p w v n (g.owed n) a s;
  silent = SilentTable.by_restart_home p w v g.silent a s;
  orphans = OrphansTable.by_restart_home p w v g.orphans a s;
  doubt = λ k. DoubtTable.by_restart_home p w v k (g.doubt k) a s;
  prepares = λ k i. PreparesTable.by_restart_home p w v k i (g.prepares k i) a s;
  logged = λ n i. LoggedTable.by_restart_home p w v n i (g.logged n i) a s;
  knows = λ k. KnowsTable.by_restart_home p w v k (g.knows k) a s;
  asks = λ k j. AsksTable.by_restart_home p w v k j (g.asks k j) a s (c.peer_present j (w.node w.home));
}
whole_step Commit w v c x o y g b a s = record {
  places = PlacesTable.by_commit w v c g.places s;
  arrivals = λ i j l. ArrivalsTable.by_commit w v i j l (g.arrivals i j l) s;
  tree = record { home = HomeTable.by_commit w v g.tree.home s; at = λ k. AtTable.by_commit w v k (g.tree.at k) s (λ on. only_home w c g.tree s.0 (w.depth k + 1) k (omega arith) on) };
  bond = λ k. BondTable.by_commit w v k (g.bond k) s;
  held = λ n. HeldTable.by_commit w v n (g.held n) s;
  owed = λ n. OwedTable.by_commit w v n (g.owed n) s (decides w y s.0) (told_at w n c g.tree (g.held n));
  silent = SilentTable.by_commit w v g.silent s;
  orphans = OrphansTable.by_commit w v g.orphans s (g.tree.home.home_present (decides w y s.0));
  doubt = λ k. DoubtTable.by_commit w v k (g.doubt k) s (fresh w (w.node k) o (decides w y s.0));
  prepares = λ k i. PreparesTable.by_commit w v k i (g.prepares k i) s;
  logged = λ n i. LoggedTable.by_commit w v n i (g.logged n i) s (fresh w n o (decides w y s.0));
  knows = λ k. KnowsTable.by_commit w v k (g.knows k) s (λ on same. home_place w k c g.tree (decides w y s.0) on same);
  asks = λ k j. AsksTable.by_commit w v k j (g.asks k j) s (λ on same. home_place w k c g.tree (decides w y s.0) on same);
}
whole_step Commit_cut w v c x o y g b a s = record {
  places = PlacesTable.by_commit_cut w v c g.places s;
  arrivals = λ i j l. ArrivalsTable.by_commit_cut w v i j l (g.arrivals i j l) s;
  tree = record { home = HomeTable.by_commit_cut w v g.tree.home s; at = λ k. AtTable.by_commit_cut w v k (g.tree.at k) s (λ on. only_home w c g.tree s.0 (w.depth k + 1) k (omega arith) on) };
  bond = λ k. BondTable.by_commit_cut w v k (g.bond k) s;
  held = λ n. HeldTable.by_commit_cut w v n (g.held n) s;
  owed = λ n. OwedTable.by_commit_cut w v n (g.owed n) s (decides w y s.0) (told_at w n c g.tree (g.held n));
  silent = SilentTable.by_commit_cut w v g.silent s;
  orphans = OrphansTable.by_commit_cut w v g.orphans s (g.tree.home.home_present (decides w y s.0));
  doubt = λ k. DoubtTable.by_commit_cut w v k (g.doubt k) s (fresh w (w.node k) o (decides w y s.0));
  prepares = λ k i. PreparesTable.by_commit_cut w v k i (g.prepares k i) s;
  logged = λ n i. LoggedTable.by_commit_cut w v n i (g.logged n i) s (decides w y s.0) (fresh w n o (decides w y s.0));
  knows = λ k. KnowsTable.by_commit_cut w v k (g.knows k) s (λ on same. home_place w k c g.tree (decides w y s.0) on same);
  asks = λ k j. AsksTable.by_commit_cut w v k j (g.asks k j) s (λ on same. home_place w k c g.tree (decides w y s.0) on same);
}
whole_step Commit_unlogged w v c x o y g b a s = record {
  places = PlacesTable.by_commit_unlogged w v c g.places s;
  arrivals = λ i j l. ArrivalsTable.by_commit_unlogged w v i j l (g.arrivals i j l) s;
  tree = record { home = HomeTable.by_commit_unlogged w v g.tree.home s; at = λ k. AtTable.by_commit_unlogged w v k (g.tree.at k) s (λ on. only_home w c g.tree s.0 (w.depth k + 1) k (omega arith) on) };
  bond = λ k. BondTable.by_commit_unlogged w v k (g.bond k) s;
  held = λ n. HeldTable.by_commit_unlogged w v n (g.held n) s;
  owed = λ n. OwedTable.by_commit_unlogged w v n (g.owed n) s (decides w y s.0) (told_at w n c g.tree (g.held n));
  silent = SilentTable.by_commit_unlogged w v g.silent s;
  orphans = OrphansTable.by_commit_unlogged w v g.orphans s (g.tree.home.home_present (decides w y s.0));
  doubt = λ k. DoubtTable.by_commit_unlogged w v k (g.doubt k) s (λ other on part. told_at w (w.node k) c g.tree (g.held (w.node k)) (decides w y s.0) s.0 other ((g.owed (w.node k)).involved_held k on part refl));
  prepares = λ k i. PreparesTable.by_commit_unlogged w v k i (g.prepares k i) s;
  logged = λ n i. LoggedTable.by_commit_unlogged w v n i (g.logged n i) s (decides w y s.0) (λ other prepared. told_at w n c g.tree (g.held n) (decides w y s.0) s.0 other ((g.owed n).log_held i prepared));
  knows = λ k. KnowsTable.by_commit_unlogged w v k (g.knows k) s (no_record w o (decides w y s.0));
  asks = λ k j. AsksTable.by_commit_unlogged w v k j (g.asks k j) s (λ on same. home_place w k c g.tree (decides w y s.0) on same);
}
whole_step Abort w v c x o y g b a s = absurd (never_abort w v a s)
whole_step (Tell p q) w v c x o y g b a s = record {
  places = PlacesTable.by_tell p q w v c g.places s;
  arrivals = λ i j l. ArrivalsTable.by_tell p q w v i j l (g.arrivals i j l) s;
  tree = record { home = HomeTable.by_tell p q w v g.tree.home s; at = λ k. AtTable.by_tell p q w v k (g.tree.at k) s };
  bond = λ k. BondTable.by_tell p q w v k (g.bond k) s;
  held = λ n. HeldTable.by_tell p q w v n (g.held n) s;
  owed = λ n. OwedTable.by_tell p q w v n (g.owed n) s;
  silent = SilentTable.by_tell p q w v g.silent s;
  orphans = OrphansTable.by_tell p q w v g.orphans s;
  doubt = λ k. DoubtTable.by_tell p q w v k (g.doubt k) s;
  prepares = λ k i. PreparesTable.by_tell p q w v k i (g.prepares k i) s;
  logged = λ n i. LoggedTable.by_tell p q w v n i (g.logged n i) s;
  knows = λ k. KnowsTable.by_tell p q w v k (g.knows k) s;
  asks = λ k j. AsksTable.by_tell p q w v k j (g.asks k j) s;
}
whole_step (Learn p) w v c x o y g b a s = record {
  places = PlacesTable.by_learn p w v c g.places s;
  arrivals = λ i j l. ArrivalsTable.by_learn p w v i j l (g.arrivals i j l) s;
  tree = record { home = HomeTable.by_learn p w v g.tree.home s; at = λ k. AtTable.by_learn p w v k (g.tree.at k) s };
  bond = λ k. BondTable.by_learn p w v k (g.bond k) s;
  held = λ n. HeldTable.by_learn p w v n (g.held n) s;
  owed = λ n. OwedTable.by_learn p w v n (g.owed n) s;
  silent = SilentTable.by_learn p w v g.silent s;
  orphans = OrphansTable.by_learn p w v g.orphans s;
  doubt = λ k. DoubtTable.by_learn p w v k (g.doubt k) s (λ r on same. one_place w p r c s.0.1 on same);
  prepares = λ k i. PreparesTable.by_learn p w v k i (g.prepares k i) s;
  logged = λ n i. LoggedTable.by_learn p w v n i (g.logged n i) s;
  knows = λ k. KnowsTable.by_learn p w v k (g.knows k) s;
  asks = λ k j. AsksTable.by_learn p w v k j (g.asks k j) s;
}
whole_step (Learn_cut p) w v c x o y g b a s = record {
  places = PlacesTable.by_learn_cut p w v c g.places s;
  arrivals = λ i j l. ArrivalsTable.by_learn_cut p w v i j l (g.arrivals i j l) s;
  tree = record { home = HomeTable.by_learn_cut p w v g.tree.home s; at = λ k. AtTable.by_learn_cut p w v k (g.tree.at k) s };
  bond = λ k. BondTable.by_learn_cut p w v k (g.bond k) s;
  held = λ n. HeldTable.by_learn_cut p w v n (g.held n) s;
  owed = λ n. OwedTable.by_learn_cut p w v n (g.owed n) s;
  silent = SilentTable.by_learn_cut p w v g.silent s;
  orphans = OrphansTable.by_learn_cut p w v g.orphans s;
  doubt = λ k. DoubtTable.by_learn_cut p w v k (g.doubt k) s;
  prepares = λ k i. PreparesTable.by_learn_cut p w v k i (g.prepares k i) s;
  logged = λ n i. LoggedTable.by_learn_cut p w v n i (g.logged n i) s;
  knows = λ k. KnowsTable.by_learn_cut p w v k (g.knows k) s;
  asks = λ k j. AsksTable.by_learn_cut p w v k j (g.asks k j) s;
}
whole_step (Learn_home p) w v c x o y g b a s = record {
  places = PlacesTable.by_learn_home p w v c g.places s;
  arrivals = λ i j l. ArrivalsTable.by_learn_home p w v i j l (g.arrivals i j l) s;
  tree = record { home = HomeTable.by_learn_home p w v g.tree.home s; at = λ k. AtTable.by_learn_home p w v k (g.tree.at k) s };
  bond = λ k. BondTable.by_learn_home p w v k (g.bond k) s;
  held = λ n. HeldTable.by_learn_home p w v n (g.held n) s;
  owed = λ n. OwedTable.by_learn_home p w v n (g.owed n) s;
  silent = SilentTable.by_learn_home p w v g.silent s;
  orphans = OrphansTable.by_learn_home p w v g.orphans s;
  doubt = λ k. DoubtTable.by_learn_home p w v k (g.doubt k) s;
  prepares = λ k i. PreparesTable.by_learn_home p w v k i (g.prepares k i) s;
  logged = λ n i. LoggedTable.by_learn_home p w v n i (g.logged n i) s;
  knows = λ k. KnowsTable.by_learn_home p w v k (g.knows k) s;
  asks = λ k j. AsksTable.by_learn_home p w v k j (g.asks k j) s;
}
whole_step (Acknowledge p) w v c x o y g b a s = record {
  places = PlacesTable.by_acknowledge p w v c g.places s;
  arrivals = λ i j l. ArrivalsTable.by_acknowledge p w v i j l (g.arrivals i j l) s;
  tree = record { home = HomeTable.by_acknowledge p w v g.tree.home s; at = λ k. AtTable.by_acknowledge p w v k (g.tree.at k) s };
  bond = λ k. BondTable.by_acknowledge p w v k (g.bond k) s;
  held = λ n. HeldTable.by_acknowledge p w v n (g.held n) s;
  owed = λ n. OwedTable.by_acknowledge p w v n (g.owed n) s;
  silent = SilentTable.by_acknowledge p w v g.silent s;
  orphans = OrphansTable.by_acknowledge p w v g.orphans s;
  doubt = λ k. DoubtTable.by_acknowledge p w v k (g.doubt k) s (λ r on same. one_place w p r c s.0.1 on same);
  prepares = λ k i. PreparesTable.by_acknowledge p w v k i (g.prepares k i) s;
  logged = λ n i. LoggedTable.by_acknowledge p w v n i (g.logged n i) s;
  knows = λ k. KnowsTable.by_acknowledge p w v k (g.knows k) s;
  asks = λ k j. AsksTable.by_acknowledge p w v k j (g.asks k j) s;
}
whole_step (Take_told p q) w v c x o y g b a s = record {
  places = PlacesTable.by_take_told p q w v c g.places s;
  arrivals = λ i j l. ArrivalsTable.by_take_told p q w v i j l (g.arrivals i j l) s;
  tree = record { home = HomeTable.by_take_told p q w v g.tree.home s; at = λ k. AtTable.by_take_told p q w v k (g.tree.at k) s };
  bond = λ k. BondTable.by_take_told p q w v k (g.bond k) s;
  held = λ n. HeldTable.by_take_told p q w v n (g.held n) s;
  owed = λ n. OwedTable.by_take_told p q w v n (g.owed n) s;
  silent = SilentTable.by_take_told p q w v g.silent s;
  orphans = OrphansTable.by_take_told p q w v g.orphans s;
  doubt = λ k. DoubtTable.by_take_told p q w v k (g.doubt k) s (λ on same part. (g.doubt q).told_known k s.2 on same part);
  prepares = λ k i. PreparesTable.by_take_told p q w v k i (g.prepares k i) s;
  logged = λ n i. LoggedTable.by_take_told p q w v n i (g.logged n i) s ((g.prepares q i).told_clear s.2);
  knows = λ k. KnowsTable.by_take_told p q w v k (g.knows k) s;
  asks = λ k j. AsksTable.by_take_told p q w v k j (g.asks k j) s;
}
whole_step (End p) w v c x o y g b a s = record {
  places = PlacesTable.by_end p w v c g.places s;
  arrivals = λ i j l. ArrivalsTable.by_end p w v i j l (g.arrivals i j l) s;
  tree = record { home = HomeTable.by_end p w v g.tree.home s; at = λ k. AtTable.by_end p w v k (g.tree.at k) s };
  bond = λ k. BondTable.by_end p w v k (g.bond k) s;
  held = λ n. HeldTable.by_end p w v n (g.held n) s;
  owed = λ n. OwedTable.by_end p w v n (g.owed n) s;
  silent = SilentTable.by_end p w v g.silent s;
  orphans = OrphansTable.by_end p w v g.orphans s;
  doubt = λ k. DoubtTable.by_end p w v k (g.doubt k) s (λ is other on part. (g.owed (w.node k)).listed is other ((g.owed (w.node k)).involved_held k on part refl));
  prepares = λ k i. PreparesTable.by_end p w v k i (g.prepares k i) s;
  logged = λ n i. LoggedTable.by_end p w v n i (g.logged n i) s (λ is other prepared. (g.owed n).listed is other ((g.owed n).log_held i prepared));
  knows = λ k. KnowsTable.by_end p w v k (g.knows k) s;
  asks = λ k j. AsksTable.by_end p w v k j (g.asks k j) s;
}
whole_step (Checkpoint p) w v c x o y g b a s = record {
  places = PlacesTable.by_checkpoint p w v c g.places s;
  arrivals = λ i j l. ArrivalsTable.by_checkpoint p w v i j l (g.arrivals i j l) s;
  tree = record { home = HomeTable.by_checkpoint p w v g.tree.home s; at = λ k. AtTable.by_checkpoint p w v k (g.tree.at k) s };
  bond = λ k. BondTable.by_checkpoint p w v k (g.bond k) s;
  held = λ n. HeldTable.by_checkpoint p w v n (g.held n) s;
  owed = λ n. OwedTable.by_checkpoint p w v n (g.owed n) s;
  silent = SilentTable.by_checkpoint p w v g.silent s;
  orphans = OrphansTable.by_checkpoint p w v g.orphans s;
  doubt = λ k. DoubtTable.by_checkpoint p w v k (g.doubt k) s;
  prepares = λ k i. PreparesTable.by_checkpoint p w v k i (g.prepares k i) s;
  logged = λ n i. LoggedTable.by_checkpoint p w v n i (g.logged n i) s;
  knows = λ k. KnowsTable.by_checkpoint p w v k (g.knows k) s;
  asks = λ k j. AsksTable.by_checkpoint p w v k j (g.asks k j) s;
}
whole_step (Tell_abort p q) w v c x o y g b a s = absurd (never_tell_abort p q w v g.silent s)
whole_step (Learn_abort p) w v c x o y g b a s = absurd (never_learn_abort p w v g.silent s)
whole_step (Name_again p) w v c x o y g b a s = absurd (never_name_again p w v g.silent s)
whole_step (Take_names p q r) w v c x o y g b a s = absurd (never_take_names p q r w v g.silent s)
whole_step (Learn_abort_home p q) w v c x o y g b a s = absurd (never_learn_abort_home p q w v c g.tree g.silent b s)
whole_step (Abort_logged p) w v c x o y g b a s = absurd (never_abort_logged p w v g.silent s)
whole_step (Drop_engage p q) w v c x o y g b a s = absurd (never_drop_engage p q w v g.silent s)
whole_step (Drop_join p q) w v c x o y g b a s = absurd (never_drop_join p q w v g.silent s)
whole_step (Drop_cover p q) w v c x o y g b a s = absurd (never_drop_cover p q w v c g.places g.tree g.silent b s)
whole_step (Inquire p) w v c x o y g b a s = record {
  places = PlacesTable.by_inquire p w v c g.places s;
  arrivals = λ i j l. ArrivalsTable.by_inquire p w v i j l (g.arrivals i j l) s;
  tree = record { home = HomeTable.by_inquire p w v g.tree.home s; at = λ k. AtTable.by_inquire p w v k (g.tree.at k) s };
  bond = λ k. BondTable.by_inquire p w v k (g.bond k) s;
  held = λ n. HeldTable.by_inquire p w v n (g.held n) s;
  owed = λ n. OwedTable.by_inquire p w v n (g.owed n) s;
  silent = SilentTable.by_inquire p w v g.silent s;
  orphans = OrphansTable.by_inquire p w v g.orphans s;
  doubt = λ k. DoubtTable.by_inquire p w v k (g.doubt k) s (c.up_present p s.0);
  prepares = λ k i. PreparesTable.by_inquire p w v k i (g.prepares k i) s;
  logged = λ n i. LoggedTable.by_inquire p w v n i (g.logged n i) s;
  knows = λ k. KnowsTable.by_inquire p w v k (g.knows k) s;
  asks = λ k j. AsksTable.by_inquire p w v k j (g.asks k j) s (λ is on same. (g.knows (w.peer p (w.node w.home))).knows is (o.stands ((g.doubt p).in_doubt is s.0 s.3 s.2 s.1).0) on same);
}
whole_step (Inquire_lost p) w v c x o y g b a s = record {
  places = PlacesTable.by_inquire_lost p w v c g.places s;
  arrivals = λ i j l. ArrivalsTable.by_inquire_lost p w v i j l (g.arrivals i j l) s;
  tree = record { home = HomeTable.by_inquire_lost p w v g.tree.home s; at = λ k. AtTable.by_inquire_lost p w v k (g.tree.at k) s };
  bond = λ k. BondTable.by_inquire_lost p w v k (g.bond k) s;
  held = λ n. HeldTable.by_inquire_lost p w v n (g.held n) s;
  owed = λ n. OwedTable.by_inquire_lost p w v n (g.owed n) s;
  silent = SilentTable.by_inquire_lost p w v g.silent s;
  orphans = OrphansTable.by_inquire_lost p w v g.orphans s ((g.tree.at p).by_engaged s.3 (λ is. s.1 (ap w.node is))).0 (lost_below w p ((g.tree.at p).by_superior s.3 (λ is. s.1 (ap w.node is))) (c.peer_present p (w.superior p)) s.4);
  doubt = λ k. DoubtTable.by_inquire_lost p w v k (g.doubt k) s (c.up_present p s.0);
  prepares = λ k i. PreparesTable.by_inquire_lost p w v k i (g.prepares k i) s;
  logged = λ n i. LoggedTable.by_inquire_lost p w v n i (g.logged n i) s;
  knows = λ k. KnowsTable.by_inquire_lost p w v k (g.knows k) s;
  asks = λ k j. AsksTable.by_inquire_lost p w v k j (g.asks k j) s (engaged_open w p g.tree s.3);
}
whole_step (Inquire_home p) w v c x o y g b a s = absurd (never_inquire_home p w v c g.tree b s)
whole_step (Answer_commit p q) w v c x o y g b a s = record {
  places = PlacesTable.by_answer_commit p q w v c g.places s;
  arrivals = λ i j l. ArrivalsTable.by_answer_commit p q w v i j l (g.arrivals i j l) s;
  tree = record { home = HomeTable.by_answer_commit p q w v g.tree.home s; at = λ k. AtTable.by_answer_commit p q w v k (g.tree.at k) s };
  bond = λ k. BondTable.by_answer_commit p q w v k (g.bond k) s;
  held = λ n. HeldTable.by_answer_commit p q w v n (g.held n) s;
  owed = λ n. OwedTable.by_answer_commit p q w v n (g.owed n) s;
  silent = SilentTable.by_answer_commit p q w v g.silent s;
  orphans = OrphansTable.by_answer_commit p q w v g.orphans s;
  doubt = λ k. DoubtTable.by_answer_commit p q w v k (g.doubt k) s;
  prepares = λ k i. PreparesTable.by_answer_commit p q w v k i (g.prepares k i) s;
  logged = λ n i. LoggedTable.by_answer_commit p q w v n i (g.logged n i) s;
  knows = λ k. KnowsTable.by_answer_commit p q w v k (g.knows k) s;
  asks = λ k j. AsksTable.by_answer_commit p q w v k j (g.asks k j) s;
}
whole_step (Answer_running p) w v c x o y g b a s = record {
  places = PlacesTable.by_answer_running p w v c g.places s;
  arrivals = λ i j l. ArrivalsTable.by_answer_running p w v i j l (g.arrivals i j l) s;
  tree = record { home = HomeTable.by_answer_running p w v g.tree.home s; at = λ k. AtTable.by_answer_running p w v k (g.tree.at k) s };
  bond = λ k. BondTable.by_answer_running p w v k (g.bond k) s;
  held = λ n. HeldTable.by_answer_running p w v n (g.held n) s;
  owed = λ n. OwedTable.by_answer_running p w v n (g.owed n) s;
  silent = SilentTable.by_answer_running p w v g.silent s;
  orphans = OrphansTable.by_answer_running p w v g.orphans s;
  doubt = λ k. DoubtTable.by_answer_running p w v k (g.doubt k) s;
  prepares = λ k i. PreparesTable.by_answer_running p w v k i (g.prepares k i) s;
  logged = λ n i. LoggedTable.by_answer_running p w v n i (g.logged n i) s;
  knows = λ k. KnowsTable.by_answer_running p w v k (g.knows k) s;
  asks = λ k j. AsksTable.by_answer_running p w v k j (g.asks k j) s;
}
whole_step (Answer_abort p q) w v c x o y g b a s = absurd (never_answer_abort p q w v c g.tree g.silent (g.asks p q) b s)
