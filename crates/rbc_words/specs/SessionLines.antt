-- What is read of a line of a session, as the grammar has it.
use Rattle.rbc_model.specs.SessionText.{SessionLine, Blank, Report, Lock, Free, Leave, GiveBack, Ask, Inquire}
use Rattle.rbc_words.specs.declared.session_request.Request.{Request}
use Rattle.rbc_words.specs.declared.session_request.Request.TheVariants.{Blank as ReadBlank, Report as ReadReport, Lock as ReadLock, Free as ReadFree, Leave as ReadLeave, GiveBack as ReadGiveBack, Ask as ReadAsk, Inquire as ReadInquire}

-- a request as the grammar has it
abbrev pub request_view : Request → SessionLine
request_view ReadBlank = Blank
request_view (ReadReport report) = Report report
request_view (ReadLock route) = Lock route
request_view (ReadFree section) = Free section
request_view (ReadLeave train) = Leave train
request_view (ReadGiveBack train end) = GiveBack train end
request_view (ReadAsk train) = Ask train
request_view (ReadInquire inquiry) = Inquire inquiry
