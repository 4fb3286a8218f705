-- What is read of a line of a scene, as the grammar has it.
use Rattle.rbc_scene_words.specs.SceneLine.{SceneLine, Version, Locked, Reported, Along, More, Stands, Holds, Next, Done}
use Rattle.rbc_scene_words.specs.declared.scene_line.SceneLine.{SceneLine as ReadLine}
use Rattle.rbc_scene_words.specs.declared.scene_line.SceneLine.TheVariants.{Version as ReadVersion, Locked as ReadLocked, Reported as ReadReported, Along as ReadAlong, More as ReadMore, Stands as ReadStands, Holds as ReadHolds, Next as ReadNext, Done as ReadDone}

-- a line as the grammar has it
abbrev pub line_view : ReadLine → SceneLine
line_view (ReadVersion version) = Version version
line_view (ReadLocked leg route before) = Locked leg route before
line_view (ReadReported report) = Reported report
line_view (ReadAlong train origin legs) = Along train origin legs.items
line_view (ReadMore train legs) = More train legs.items
line_view (ReadStands train rear front) = Stands train rear front
line_view (ReadHolds train from to) = Holds train from to
line_view ReadNext = Next
line_view ReadDone = Done
