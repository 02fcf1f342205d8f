use Rattle.qs_world_refine.proofs.SoundRules.{owner_asks_sound, ask_came_sound, refusal_came_sound, reply_came_sound}
use Rattle.qs_world_refine.proofs.sound_rules.asking.Goals as goal

pub returns : goal.returns
returns c = record { owner_asks = owner_asks_sound; ask_came = ask_came_sound; refusal_came = refusal_came_sound; reply_came = reply_came_sound }
