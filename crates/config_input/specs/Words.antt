-- The names of a session's boards and of their registers are words of a line. No public clause but a law speaks of it.
use Rattle.toml.specs.Data.{Members}
use Rattle.script_lang.specs.declared.session.Session.{Session}
use Rattle.script_lang.specs.Document.{IsSession}

-- the session is that of a document
abbrev pub IsOfDocument : Session → Type 0
IsOfDocument session = (document : Members) × IsSession document session
