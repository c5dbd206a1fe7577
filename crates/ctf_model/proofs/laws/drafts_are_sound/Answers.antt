use Rattle.ctf_model.proofs.SoundDrafts.{changes_sound, enumerator_sound, label_sound, life_sound, member_sound, new_sound, type_sound}
use Rattle.ctf_model.proofs.laws.drafts_are_sound.Goals as goal

pub returns : goal.returns
returns c = record { created = new_sound; types = type_sound; members = member_sound; enumerators = enumerator_sound; labels = label_sound; life = life_sound; changes = changes_sound }
