-- What is in a picture of a report.
use Rattle.job_text.specs.declared.report.Report.{Report}
use Rattle.report_drawing.specs.declared.picture.Picture.{Picture}
use Rattle.report_drawing.specs.Lanes.{lanes_of}
use Rattle.report_drawing.specs.Columns.{epochs_in, AreColumns}
use Rattle.report_drawing.specs.Folding.{AreStrips}

-- a column for each epoch in which something stands, but for those that are folded, and a lane for
-- each unit and each caller, whose labels stand in these columns
pub record IsPicture (r : Report) (p : Picture) : Type 0 where
  pub columns :
      AreColumns r.image_clock (epochs_in r.base_clock r.image_clock (lanes_of r)) p.columns.items
  pub strips : AreStrips p.columns.items (lanes_of r) p.strips.items
