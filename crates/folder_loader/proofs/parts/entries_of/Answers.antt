use Rattle.std.proofs.Common.{rules}
use Rattle.folder_loader.proofs.parts.entries_of.Goals as goal

pub returns-in-Err-NoEntry-clause-refused : goal.returns-in-Err-NoEntry-clause-refused
returns-in-Err-NoEntry-clause-refused c = λ line e. (c.in-Err-NoEntry.ensures.none c.in-Err-NoEntry.field-0-is, c.no_entry.ensures.line line (search rules))
