-- Which points of its call a process reaches by an event.
use Rattle.std.specs.Prelude.{ℕ, zero, suc, ◌-◌, max, List, [], ◌∷◌, ◌++◌, Option, Some, None, take, drop, codes, slice_get, if◌then◌else◌}
use Rattle.ds_core.specs.declared.reply.Reply.{Reply}
use Rattle.ds_core.specs.declared.reply.Reply.TheVariants as replies
use Rattle.ds_script.specs.Points.{name_of_point}
use Rattle.ds_script.specs.declared.point.PointName.{PointName}
use Rattle.ds_script.specs.declared.point.PointName.TheVariants.{Written, Announced, Indexed, Helped, Swung, Kept, Marked, Answered, Held, Stored, Valued, Spread, Cleared, Freed, Copied, Switched}
use Rattle.ds_trace.specs.declared.row.Begin.{Begin}
use Rattle.ds_trace.specs.declared.row.Begin.TheVariants.{Edit, Work, Show, Recovery, Migration}
use Rattle.ds_trace.specs.declared.row.Happening.{Happening}
use Rattle.ds_trace.specs.declared.row.Happening.TheVariants.{Begins}
use Rattle.ds_trace.specs.declared.row.TraceRow.{TraceRow}
use Rattle.ds_trace_scene.specs.Rows.{is_in_lane}
use Rattle.ds_trace_scene.specs.declared.points.Course.{Course}

-- the points of a call, in their order
abbrev pub points_of : Option Begin → List PointName
points_of (Some (Edit cell)) = Written ∷ Announced ∷ Indexed ∷ Helped ∷ Swung ∷ Kept ∷ Marked ∷ Answered ∷ []
points_of (Some (Work cell)) = Held ∷ Stored ∷ Valued ∷ Spread ∷ Cleared ∷ []
points_of (Some Recovery) = Freed ∷ Kept ∷ Marked ∷ Answered ∷ []
points_of (Some Migration) = Copied ∷ Switched ∷ []
points_of (Some Show) = []
points_of None = []

-- how many of its points a call has passed that has passed this one last
abbrev pub passed : Option Begin → Option PointName → ℕ
passed (Some (Edit cell)) (Some Written) = 1
passed (Some (Edit cell)) (Some Announced) = 2
passed (Some (Edit cell)) (Some Indexed) = 3
passed (Some (Edit cell)) (Some Helped) = 4
passed (Some (Edit cell)) (Some Swung) = 5
passed (Some (Edit cell)) (Some Kept) = 6
passed (Some (Edit cell)) (Some Marked) = 7
passed (Some (Edit cell)) (Some Answered) = 8
passed (Some (Work cell)) (Some Held) = 1
passed (Some (Work cell)) (Some Stored) = 2
passed (Some (Work cell)) (Some Valued) = 3
passed (Some (Work cell)) (Some Spread) = 4
passed (Some (Work cell)) (Some Cleared) = 5
passed (Some Recovery) (Some Freed) = 1
passed (Some Recovery) (Some Kept) = 2
passed (Some Recovery) (Some Marked) = 3
passed (Some Recovery) (Some Answered) = 4
passed (Some Migration) (Some Copied) = 1
passed (Some Migration) (Some Switched) = 2
passed call last = 0

-- a call that begins has reached none of its points
abbrev pub begun_by : Happening → Reply → Course → Course
begun_by (Begins process begin) (replies.Begun number) before = record { call = Some begin; reached = 0 }
begun_by (Begins process begin) replies.Entered before = record { call = Some begin; reached = 0 }
begun_by what reply before = before

-- the course after an event of the process, after which its call has passed this point last
abbrev pub passing : Option PointName → Course → Course
passing last course = record { call = course.call; reached = max (passed course.call last) course.reached }

-- the course of the process's call after the row's event
abbrev pub course_by : ℕ → TraceRow → Course → Course
course_by process row before = if is_in_lane process row.what row.reply then passing row.behind (begun_by row.what row.reply before) else before

-- the same, where there is such a row
abbrev pub course_on : ℕ → Option TraceRow → Course → Course
course_on process (Some row) before = course_by process row before
course_on process None before = before

-- which call the process has begun last by the first events, this many, and how many of its points it has reached
abbrev pub course : ℕ → List TraceRow → ℕ → Course
course process rows zero = record { call = None; reached = 0 }
course process rows (suc event) = course_on process (slice_get rows event) (course process rows event)

-- one name more, after a space
abbrev pub name_more : List ℕ → PointName → List ℕ
name_more [] point = name_of_point point
name_more (letter ∷ names) point = (letter ∷ names) ++ (codes " " ++ name_of_point point)

-- the names of points after these, parted by spaces
abbrev pub names_after : List ℕ → List PointName → List ℕ
names_after names [] = names
names_after names (point ∷ points) = names_after (name_more names point) points

-- the points that a call reaches by an event after which it has passed this one last: those up to it that it had not reached
abbrev pub points_reached : Option PointName → Course → List PointName
points_reached last course = take (passed course.call last - course.reached) (drop course.reached (points_of course.call))

-- the names of the points that the call of a process with this course reaches by the row's event
abbrev pub points_text : TraceRow → Course → List ℕ
points_text row before = names_after [] (points_reached row.behind (begun_by row.what row.reply before))
