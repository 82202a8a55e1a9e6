use Rattle.sha_lanes.proofs.FourLanes.{each_lane}
use Rattle.sha_lanes.proofs.blocks.words_at.Goals as goal

pub returns : goal.returns
returns c = each_lane _ c.word_of.ensures c.word_of-2.ensures c.word_of-3.ensures c.word_of-4.ensures
